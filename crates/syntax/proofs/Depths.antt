-- The brackets that are open wherever reading has come.
use Rattle.std.proofs.Common.{◌≡◌, ℕ, ◌+◌, ◌-◌, ◌*◌, ◌≤◌, Bool, true, false, cond, not, ◌&&◌, eqb, ltb, leb, ◌⊎◌, List, [], ◌∷◌, ◌++◌, get_or, take, drop, sym, refl, ap, ◌∙◌, subst, inl, inr, ⊎_elim, arith}
use Rattle.std.proofs.lemmas.Bool.{eqb-true, ne_eqb, leb-true, leb-false, and_parts, not-true}
use Rattle.std.proofs.lemmas.List.{append_assoc}
use Rattle.syntax.specs.Grammar.{Stop, Want, Part, byte, wants, words, more, shut, parts, row, spelling, last, spelled_out, forms, width}
use Rattle.syntax.specs.Grammar.Stop.{space, close, line}
use Rattle.syntax.specs.Grammar.Want.{stop, number, digits, item, word}
use Rattle.syntax.specs.Grammar.Part.{num, sub}
use Rattle.syntax.specs.Reading.{Seen, Move, step, start_none, after, began, spelled, digit, full, begun, many, passed, push, counted, at_depth}
use Rattle.syntax.specs.Reading.Move.{on, off}
use Rattle.syntax.proofs.Texts.{Text, shown}
use Rattle.syntax.specs.Refusals.{tally}
use Rattle.syntax.specs.declared.grammar.Form.{Form}
use Rattle.syntax.specs.declared.grammar.Form.TheVariants.{TNum, TNone, TFn, TBox, TAt, TBoth, Site, Bound, Num, Val, Lam, App, Boxed, Unbox, Here, Letd, Getb, Getd, Getn, Pair, Fst, Snd, Letcc, Throw, Go, Gauge, Gate, Below, Station, Run}
use Rattle.syntax.specs.declared.grammar.Sort.{Sort}
use Rattle.syntax.specs.declared.grammar.Sort.TheVariants.{First}
use Rattle.syntax.proofs.Rows.{spelt}
use Rattle.syntax.proofs.Sound.{Plain, Fine, Sound, plain_wants}
use Rattle.syntax.proofs.Forms.{begun_sizes, settled_sizes}

abbrev pub is : ℕ → ℕ → ℕ
is b c = cond (eqb c b) 1 0

abbrev pub bit : Form → ℕ
bit f = cond (eqb (last f) 41) 1 0

-- the brackets that what is wanted will close
abbrev pub shuts : Stop → ℕ
shuts space = 0
shuts (close f) = bit f
shuts line = 0

abbrev pub closers : List Want → ℕ
closers [] = 0
closers (stop a ∷ ws) = shuts a + closers ws
closers (number k a ∷ ws) = shuts a + closers ws
closers (digits k p v a ∷ ws) = shuts a + closers ws
closers (item o ∷ ws) = closers ws
closers (word o ks ∷ ws) = closers ws

-- the bracket of a word that is half read
abbrev pub half : List (List ℕ × Form) → ℕ
half [] = 0
half ((w, f) ∷ ks) = bit f

abbrev pub pend : List Want → ℕ
pend [] = 0
pend (stop a ∷ ws) = 0
pend (number k a ∷ ws) = 0
pend (digits k p v a ∷ ws) = 0
pend (item o ∷ ws) = 0
pend (word o ks ∷ ws) = half ks

abbrev pub plain : List ℕ → Bool
plain [] = true
plain (x ∷ w) = not (eqb x 40) && (not (eqb x 41) && plain w)

abbrev pub Neat : Bool → List (List ℕ × Form) → Type 0
Neat b [] = Unit {0}
Neat b ((w, f) ∷ ks) = (plain w ≡ true) × (eqb (last f) 41 ≡ b) × Neat b ks

abbrev pub Clean : List Want → Type 0
Clean [] = Unit {0}
Clean (stop a ∷ ws) = Unit {0}
Clean (number k a ∷ ws) = Unit {0}
Clean (digits k p v a ∷ ws) = Unit {0}
Clean (item o ∷ ws) = Unit {0}
Clean (word o ks ∷ ws) = (b : Bool) × Neat b ks

pend_plain : (ws : List Want) → Plain ws → (pend ws ≡ 0) × Clean ws
pend_plain [] p = (refl, tt)
pend_plain (stop a ∷ ws) p = (refl, tt)
pend_plain (number k a ∷ ws) p = (refl, tt)
pend_plain (digits k q v a ∷ ws) p = absurd p
pend_plain (item o ∷ ws) p = (refl, tt)
pend_plain (word o ks ∷ ws) p = absurd p

next_closers : (f : Form) (ws : List Want) → closers ((row f).next ++ ws) ≡ closers ws
next_closers TNum ws = refl
next_closers TNone ws = refl
next_closers TFn ws = refl
next_closers TBox ws = refl
next_closers TAt ws = refl
next_closers TBoth ws = refl
next_closers Site ws = refl
next_closers Bound ws = refl
next_closers Num ws = refl
next_closers Val ws = refl
next_closers Lam ws = refl
next_closers App ws = refl
next_closers Boxed ws = refl
next_closers Unbox ws = refl
next_closers Here ws = refl
next_closers Letd ws = refl
next_closers Getb ws = refl
next_closers Getd ws = refl
next_closers Getn ws = refl
next_closers Pair ws = refl
next_closers Fst ws = refl
next_closers Snd ws = refl
next_closers Letcc ws = refl
next_closers Throw ws = refl
next_closers Go ws = refl
next_closers Gauge ws = refl
next_closers Gate ws = refl
next_closers Below ws = refl
next_closers Station ws = omega arith
next_closers Run ws = omega arith

more_closers : (f : Form) (p : Part) (ps : List Part) (ws : List Want) → closers (more f (p ∷ ps) ws) ≡ bit f + closers ws
more_closers f num [] ws = refl
more_closers f (sub k) [] ws = refl
more_closers f num (q ∷ ps) ws = let e = more_closers f q ps ws in omega arith
more_closers f (sub k) (q ∷ ps) ws = let e = more_closers f q ps ws in omega arith

shut_closers : (f : Form) (ps : List Part) (ws : List Want) → closers (shut f ps ws) ≡ bit f + closers ws
shut_closers f [] ws = refl
shut_closers f (p ∷ ps) ws = more_closers f p ps ws

wants_closers : (f : Form) (ws : List Want) → closers (wants f ws) ≡ bit f + closers ws
wants_closers f ws = shut_closers f (parts f) ((row f).next ++ ws) ∙ ap (λ (x : ℕ). bit f + x) (next_closers f ws)

tidy : (f : Form) → (plain (get_or (spelling f) 1 0 ∷ drop 2 (spelling f)) ≡ true) × (eqb (get_or (spelling f) 0 0) 41 ≡ false)
tidy TNum = (refl, refl)
tidy TNone = (refl, refl)
tidy TFn = (refl, refl)
tidy TBox = (refl, refl)
tidy TAt = (refl, refl)
tidy TBoth = (refl, refl)
tidy Site = (refl, refl)
tidy Bound = (refl, refl)
tidy Num = (refl, refl)
tidy Val = (refl, refl)
tidy Lam = (refl, refl)
tidy App = (refl, refl)
tidy Boxed = (refl, refl)
tidy Unbox = (refl, refl)
tidy Here = (refl, refl)
tidy Letd = (refl, refl)
tidy Getb = (refl, refl)
tidy Getd = (refl, refl)
tidy Getn = (refl, refl)
tidy Pair = (refl, refl)
tidy Fst = (refl, refl)
tidy Snd = (refl, refl)
tidy Letcc = (refl, refl)
tidy Throw = (refl, refl)
tidy Go = (refl, refl)
tidy Gauge = (refl, refl)
tidy Gate = (refl, refl)
tidy Below = (refl, refl)
tidy Station = (refl, refl)
tidy Run = (refl, refl)

pub not_open : (a : Stop) → eqb (byte a) 40 ≡ false
not_open space = refl
not_open line = refl
not_open (close TNum) = refl
not_open (close TNone) = refl
not_open (close TFn) = refl
not_open (close TBox) = refl
not_open (close TAt) = refl
not_open (close TBoth) = refl
not_open (close Site) = refl
not_open (close Bound) = refl
not_open (close Num) = refl
not_open (close Val) = refl
not_open (close Lam) = refl
not_open (close App) = refl
not_open (close Boxed) = refl
not_open (close Unbox) = refl
not_open (close Here) = refl
not_open (close Letd) = refl
not_open (close Getb) = refl
not_open (close Getd) = refl
not_open (close Getn) = refl
not_open (close Pair) = refl
not_open (close Fst) = refl
not_open (close Snd) = refl
not_open (close Letcc) = refl
not_open (close Throw) = refl
not_open (close Go) = refl
not_open (close Gauge) = refl
not_open (close Gate) = refl
not_open (close Below) = refl
not_open (close Station) = refl
not_open (close Run) = refl

is_shut : (a : Stop) → is 41 (byte a) ≡ shuts a
is_shut space = refl
is_shut (close f) = refl
is_shut line = refl

-- the words that go on
first_after : (c : ℕ) (fs : List Form) → Neat (eqb c 40) (after c (spelled_out fs)) × ((after c (spelled_out fs) ≡ []) ⊎ (eqb c 41 ≡ false))
first_after c [] = (tt, inl refl)
first_after c (f ∷ fs) =
    subst (λ (w : List ℕ). Neat (eqb c 40) (after c ((w, f) ∷ spelled_out fs)) × ((after c ((w, f) ∷ spelled_out fs) ≡ []) ⊎ (eqb c 41 ≡ false))) (sym (spelt f).0)
    (at (eqb c (get_or (spelling f) 0 0)) refl (first_after c fs))
  where
    at : (t : Bool) → eqb c (get_or (spelling f) 0 0) ≡ t → Neat (eqb c 40) (after c (spelled_out fs)) × ((after c (spelled_out fs) ≡ []) ⊎ (eqb c 41 ≡ false)) →
        Neat (eqb c 40) (cond t ((get_or (spelling f) 1 0 ∷ drop 2 (spelling f), f) ∷ after c (spelled_out fs)) (after c (spelled_out fs)))
        × ((cond t ((get_or (spelling f) 1 0 ∷ drop 2 (spelling f), f) ∷ after c (spelled_out fs)) (after c (spelled_out fs)) ≡ []) ⊎ (eqb c 41 ≡ false))
    at true e r =
        let q : c ≡ get_or (spelling f) 0 0 = eqb-true c (get_or (spelling f) 0 0) e in
        (((tidy f).0, sym (spelt f).1 ∙ ap (λ (x : ℕ). eqb x 40) (sym q), r.0), inr (ap (λ (x : ℕ). eqb x 41) q ∙ (tidy f).1))
    at false e r = r

pub neat_after : (b : Bool) (c : ℕ) (ks : List (List ℕ × Form)) → Neat b ks → Neat b (after c ks) × ((after c ks ≡ []) ⊎ ((eqb c 40 ≡ false) × (eqb c 41 ≡ false)))
neat_after b c [] h = (tt, inl refl)
neat_after b c (([], f) ∷ ks) h = neat_after b c ks h.2
neat_after b c ((x ∷ w, f) ∷ ks) h = at (eqb c x) refl (neat_after b c ks h.2)
  where
    at : (t : Bool) → eqb c x ≡ t → Neat b (after c ks) × ((after c ks ≡ []) ⊎ ((eqb c 40 ≡ false) × (eqb c 41 ≡ false))) →
        Neat b (cond t ((w, f) ∷ after c ks) (after c ks)) × ((cond t ((w, f) ∷ after c ks) (after c ks) ≡ []) ⊎ ((eqb c 40 ≡ false) × (eqb c 41 ≡ false)))
    at true e r =
        let q : c ≡ x = eqb-true c x e in
        let p = and_parts (not (eqb x 40)) (not (eqb x 41) && plain w) h.0 in
        let s = and_parts (not (eqb x 41)) (plain w) p.1 in
        ((s.1, h.1, r.0), inr (ap (λ (y : ℕ). eqb y 40) q ∙ not-true (eqb x 40) p.0, ap (λ (y : ℕ). eqb y 41) q ∙ not-true (eqb x 41) s.0))
    at false e r = r

neat_half : (b : Bool) (c : ℕ) (ks : List (List ℕ × Form)) → Neat b ks → (after c ks ≡ [] → ⊥) → half ks ≡ cond b 1 0
neat_half b c [] h n = absurd (n refl)
neat_half b c ((w, f) ∷ ks) h n = ap (λ (x : Bool). cond x 1 0) h.1

-- what a step keeps
abbrev pub Keeps : List Want → Seen → ℕ → Move → Type 0
Keeps ws s c (on vs q) = Clean vs × (closers vs ≡ q.depth) × (is 40 c + (closers ws + pend ws) ≡ is 41 c + (closers vs + pend vs)) × (s.depth + pend ws ≤ 64 → q.depth + pend vs ≤ 64)
Keeps ws s c (off n p) = Unit {0}

keeps_cond : (ws : List Want) (s : Seen) (c : ℕ) (b : Bool) (m n : Move) → (b ≡ true → Keeps ws s c m) → (b ≡ false → Keeps ws s c n) → Keeps ws s c (cond b m n)
keeps_cond ws s c true m n h k = h refl
keeps_cond ws s c false m n h k = k refl

less : (t : Bool) (d k : ℕ) → cond t 1 0 + k ≡ d → cond t (d - 1) d ≡ k
less true d k e = omega arith
less false d k e = omega arith

passed_depth : (a : Stop) (s : Seen) (k : ℕ) → shuts a + k ≡ s.depth → (passed a s).depth ≡ k
passed_depth space s k e = omega arith
passed_depth line s k e = omega arith
passed_depth (close f) s k e =
    (settled_sizes (width (parts f)) ((row f).make (take (width (parts f)) s.vals)) (at_depth (cond (eqb (last f) 41) (s.depth - 1) s.depth) s)).depth ∙ less (eqb (last f) 41) s.depth k e

at_stop : (a : Stop) (ws : List Want) (s : Seen) (c : ℕ) (w : Want) → Plain ws → closers (w ∷ ws) ≡ shuts a + closers ws → pend (w ∷ ws) ≡ 0 → closers (w ∷ ws) ≡ s.depth → c ≡ byte a → Keeps (w ∷ ws) s c (on ws (passed a s))
at_stop a ws s c w p e z d q =
    let pp = pend_plain ws p in
    let n0 : is 40 c ≡ 0 = ap (λ (x : Bool). cond x 1 0) (ap (λ (x : ℕ). eqb x 40) q ∙ not_open a) in
    let n1 : is 41 c ≡ shuts a = ap (is 41) q ∙ is_shut a in
    let k = passed_depth a s (closers ws) (sym e ∙ d) in
    (pp.1, sym k, omega (arith, pp.0, n0, n1, e, z), λ h. omega (arith, pp.0, k, e, d, h))

pub no_bracket : (c : ℕ) → digit c ≡ true → (is 40 c ≡ 0) × (is 41 c ≡ 0)
no_bracket c h =
    let z = and_parts (leb 48 c) (leb c 57) h in
    let y = leb-true 48 c z.0 in
    (ap (λ (x : Bool). cond x 1 0) (ne_eqb c 40 (λ e. omega arith)), ap (λ (x : Bool). cond x 1 0) (ne_eqb c 41 (λ e. omega arith)))

small_depth : (t : Bool) (d : ℕ) → (t && leb 64 d) ≡ false → d + 0 ≤ 64 → d + cond t 1 0 ≤ 64
small_depth true d e h = omega (arith, leb-false 64 d e)
small_depth false d e h = omega arith

more_depth : (t : Bool) (d k : ℕ) → k ≡ d → cond t 1 0 + k ≡ cond t (d + 1) d
more_depth true d k e = omega arith
more_depth false d k e = omega arith

began_keeps : (o : Sort) (ws : List Want) (s : Seen) (i c : ℕ) (l : List (List ℕ × Form)) → Neat (eqb c 40) l → (l ≡ []) ⊎ (eqb c 41 ≡ false) → closers ws ≡ s.depth → Keeps (item o ∷ ws) s c (began o l ws s i c)
began_keeps o ws s i c [] h z d = tt
began_keeps o ws s i c ((w, f) ∷ ks) h z d =
    let l : List (List ℕ × Form) = (w, f) ∷ ks in
    let b = (begun_sizes o s).depth in
    let n : eqb c 41 ≡ false = ⊎_elim (λ (e : l ≡ []). absurd (let y : ◌≡◌ {A = ℕ} 0 1 = cc in omega arith)) (λ (e : eqb c 41 ≡ false). e) z in
    let n1 : is 41 c ≡ 0 = ap (λ (x : Bool). cond x 1 0) n in
    let hf : bit f ≡ is 40 c = ap (λ (x : Bool). cond x 1 0) h.1 in
    keeps_cond (item o ∷ ws) s c (eqb c 40 && leb 64 s.depth) (off 12 i) (cond (full o s) (off 13 i) (on (word o l ∷ ws) (begun o s))) (λ e. tt)
    (λ e. keeps_cond (item o ∷ ws) s c (full o s) (off 13 i) (on (word o l ∷ ws) (begun o s)) (λ e'. tt)
    (λ e'. ((eqb c 40, h), d ∙ sym b, omega (arith, n1, hf), λ g. (let y : s.depth + is 40 c ≤ 64 = small_depth (eqb c 40) s.depth e g in omega (arith, y, hf, b)))))

spelled_keeps : (o : Sort) (ks : List (List ℕ × Form)) (b : Bool) (ws : List Want) (s : Seen) (i c : ℕ) (l : List (List ℕ × Form)) → Plain ws → Neat b l → (l ≡ []) ⊎ ((eqb c 40 ≡ false) × (eqb c 41 ≡ false)) → ((l ≡ [] → ⊥) → half ks ≡ cond b 1 0) → closers ws ≡ s.depth →
    Keeps (word o ks ∷ ws) s c (spelled o l ws s i c)
spelled_keeps o ks b ws s i c [] p h z g d = tt
spelled_keeps o ks b ws s i c (([], f) ∷ l) p h z g d =
    let k : List (List ℕ × Form) = ([], f) ∷ l in
    let ne : k ≡ [] → ⊥ = λ e. (let y : ◌≡◌ {A = ℕ} 0 1 = cc in omega arith) in
    let n : (eqb c 40 ≡ false) × (eqb c 41 ≡ false) = ⊎_elim (λ (e : k ≡ []). absurd (ne e)) (λ (e : (eqb c 40 ≡ false) × (eqb c 41 ≡ false)). e) z in
    let n0 : is 40 c ≡ 0 = ap (λ (x : Bool). cond x 1 0) n.0 in
    let n1 : is 41 c ≡ 0 = ap (λ (x : Bool). cond x 1 0) n.1 in
    let hk = g ne in
    let hf : bit f ≡ cond b 1 0 = ap (λ (x : Bool). cond x 1 0) h.1 in
    let pp = pend_plain (wants f ws) (plain_wants f ws p) in
    let w = wants_closers f ws in
    let m = more_depth (eqb (last f) 41) s.depth (closers ws) d in
    (pp.1, w ∙ m, omega (arith, n0, n1, hk, hf, pp.0, w), λ q. omega (arith, q, hk, hf, pp.0, m, d))
spelled_keeps o ks b ws s i c ((x ∷ v, f) ∷ l) p h z g d =
    let k : List (List ℕ × Form) = (x ∷ v, f) ∷ l in
    let ne : k ≡ [] → ⊥ = λ e. (let y : ◌≡◌ {A = ℕ} 0 1 = cc in omega arith) in
    let n : (eqb c 40 ≡ false) × (eqb c 41 ≡ false) = ⊎_elim (λ (e : k ≡ []). absurd (ne e)) (λ (e : (eqb c 40 ≡ false) × (eqb c 41 ≡ false)). e) z in
    let n0 : is 40 c ≡ 0 = ap (λ (x : Bool). cond x 1 0) n.0 in
    let n1 : is 41 c ≡ 0 = ap (λ (x : Bool). cond x 1 0) n.1 in
    let hk = g ne in
    let hf : bit f ≡ cond b 1 0 = ap (λ (x : Bool). cond x 1 0) h.1 in
    keeps_cond (word o ks ∷ ws) s c (many o c s) (off 14 (i - 1)) (on (word o k ∷ ws) s) (λ e. tt)
    (λ e. ((b, h), d, omega (arith, n0, n1, hk, hf), λ q. omega (arith, q, hk, hf)))

pub step_keeps : (ws : List Want) (s : Seen) (i c : ℕ) → Fine ws → Clean ws → closers ws ≡ s.depth → Keeps ws s c (step ws s i c)
step_keeps [] s i c p h d = tt
step_keeps (stop a ∷ ws) s i c p h d =
    keeps_cond (stop a ∷ ws) s c (eqb c (byte a)) (on ws (passed a s)) (off 11 i) (λ e. at_stop a ws s c (stop a) p refl refl d (eqb-true c (byte a) e)) (λ e. tt)
step_keeps (number k a ∷ ws) s i c p h d =
    keeps_cond (number k a ∷ ws) s c (eqb c 48) (on (stop a ∷ ws) (push 0 s)) (cond (digit c) (on (digits k i (c - 48) a ∷ ws) s) (off 11 i))
    (λ e. let q : c ≡ 48 = eqb-true c 48 e in let n0 : is 40 c ≡ 0 = ap (is 40) q in let n1 : is 41 c ≡ 0 = ap (is 41) q in (tt, d, omega (arith, n0, n1), λ g. g))
    (λ e. keeps_cond (number k a ∷ ws) s c (digit c) (on (digits k i (c - 48) a ∷ ws) s) (off 11 i)
    (λ e'. let n = no_bracket c e' in (tt, d, omega (arith, n.0, n.1), λ g. g)) (λ e'. tt))
step_keeps (digits k j v a ∷ ws) s i c p h d =
    let n : ℕ = v * 10 + (c - 48) in
    keeps_cond (digits k j v a ∷ ws) s c (eqb c (byte a)) (on ws (passed a (push v s))) (cond (digit c && ltb n 65536) (cond (counted k n) (off 14 j) (on (digits k j n a ∷ ws) s)) (off 11 i))
    (λ e. at_stop a ws (push v s) c (digits k j v a) p.1 refl refl d (eqb-true c (byte a) e))
    (λ e. keeps_cond (digits k j v a ∷ ws) s c (digit c && ltb n 65536) (cond (counted k n) (off 14 j) (on (digits k j n a ∷ ws) s)) (off 11 i)
    (λ e'. let z = and_parts (digit c) (ltb n 65536) e' in let y = no_bracket c z.0 in
    keeps_cond (digits k j v a ∷ ws) s c (counted k n) (off 14 j) (on (digits k j n a ∷ ws) s) (λ g. tt) (λ g. (tt, d, omega (arith, y.0, y.1), λ g. g)))
    (λ e'. tt))
step_keeps (item o ∷ ws) s i c p h d = let f = first_after c (forms o) in began_keeps o ws s i c (after c (words o)) f.0 f.1 d
step_keeps (word o ks ∷ ws) s i c p h d =
    let n = neat_after h.0 c ks h.1 in
    spelled_keeps o ks h.0 ws s i c (after c ks) p.2 n.0 n.1 (λ e. neat_half h.0 c ks h.1 e) d

tally_push : (b : ℕ) (xs : List ℕ) (c : ℕ) → tally b (xs ++ c ∷ []) ≡ tally b xs + is b c
tally_push b [] c = omega arith
tally_push b (x ∷ xs) c = let e = tally_push b xs c in omega arith

-- what holds wherever reading has come
pub record Inv (before : List ℕ) (ws : List Want) (s : Seen) : Type 0 where
  pub fine : Fine ws
  pub clean : Clean ws
  pub depth : closers ws ≡ s.depth
  pub low : s.depth + pend ws ≤ 64
  pub count : tally 40 before ≡ tally 41 before + (closers ws + pend ws)
  pub from : (u : Text ws) → (t : Text (item First ∷ [])) × (shown t ≡ before ++ shown u)

pub inv_start : Inv [] (item First ∷ []) start_none
inv_start = record { fine = tt; clean = tt; depth = refl; low = omega arith; count = refl; from = λ u. (u, refl) }

pub inv_step : (before : List ℕ) (ws : List Want) (s : Seen) (i c : ℕ) (vs : List Want) (q : Seen) → Inv before ws s → Sound ws i c (on vs q) → Keeps ws s c (on vs q) → Inv (before ++ c ∷ []) vs q
inv_step before ws s i c vs q v g k =
    record {
      fine = g.0;
      clean = k.0;
      depth = k.1;
      low = k.3 v.low;
      count = omega (arith, tally_push 40 before c, tally_push 41 before c, v.count, k.2);
      from = λ u. let t = g.1 u in let r = v.from t.0 in (r.0, r.1 ∙ ap (λ (x : List ℕ). before ++ x) t.1 ∙ sym (append_assoc before (c ∷ []) (shown u)));
    }
