-- A byte that a text of what is wanted goes on with is taken, and what is left is a text of what is wanted then.
use Rattle.std.proofs.Common.{◌≡◌, ℕ, ◌+◌, ◌-◌, ◌*◌, ◌<◌, ◌≤◌, Bool, true, false, cond, not, ◌&&◌, eqb, ltb, leb, List, [], ◌∷◌, ◌++◌, length, sym, refl, ap, ◌∙◌, subst, arith}
use Rattle.std.proofs.lemmas.Bool.{eq-eqb, ne_eqb, eqb-true, lt-ltb, both_ways, and_parts, not-true, and_from}
use Rattle.syntax.specs.Grammar.{Stop, Want, byte, wants, words}
use Rattle.syntax.specs.Grammar.Stop.{space, close, line}
use Rattle.syntax.specs.Grammar.Want.{stop, number, digits, item, word}
use Rattle.syntax.specs.Reading.{Seen, Move, step, after, began, spelled, digit, full, begun, many, passed, push, counted}
use Rattle.syntax.specs.Reading.Move.{on, off}
use Rattle.syntax.specs.Texts.{In, valued, begins, Far, Apart}
use Rattle.syntax.proofs.Texts.{Text, shown, places}
use Rattle.syntax.specs.Refusals.{New, new_item, new_number, noted}
use Rattle.syntax.specs.Texts.In.{here, there}
use Rattle.syntax.proofs.Texts.Text.{end, past, nought, some, rest, pick, spell}
use Rattle.syntax.specs.declared.grammar.Form.{Form}
use Rattle.syntax.specs.declared.grammar.Form.TheVariants.{TNum, TNone, TFn, TBox, TAt, TBoth, Site, Bound, Num, Val, Lam, App, Boxed, Unbox, Here, Letd, Getb, Getd, Getn, Pair, Fst, Snd, Letcc, Throw, Go, Gauge, Gate, Below, Station, Run}
use Rattle.syntax.specs.declared.grammar.Sort.{Sort}
use Rattle.syntax.specs.declared.grammar.Sort.TheVariants.{Types, Worlds, Terms, First, Further}

pub no_digit : (a : Stop) → digit (byte a) ≡ false
no_digit space = refl
no_digit line = refl
no_digit (close TNum) = refl
no_digit (close TNone) = refl
no_digit (close TFn) = refl
no_digit (close TBox) = refl
no_digit (close TAt) = refl
no_digit (close TBoth) = refl
no_digit (close Site) = refl
no_digit (close Bound) = refl
no_digit (close Num) = refl
no_digit (close Val) = refl
no_digit (close Lam) = refl
no_digit (close App) = refl
no_digit (close Boxed) = refl
no_digit (close Unbox) = refl
no_digit (close Here) = refl
no_digit (close Letd) = refl
no_digit (close Getb) = refl
no_digit (close Getd) = refl
no_digit (close Getn) = refl
no_digit (close Pair) = refl
no_digit (close Fst) = refl
no_digit (close Snd) = refl
no_digit (close Letcc) = refl
no_digit (close Throw) = refl
no_digit (close Go) = refl
no_digit (close Gauge) = refl
no_digit (close Gate) = refl
no_digit (close Below) = refl
no_digit (close Station) = refl
no_digit (close Run) = refl

-- the words of each sort, by computation
far : List ℕ → List (List ℕ × Form) → Bool
far w [] = true
far w ((v, g) ∷ ks) = not (begins w v) && (not (begins v w) && far w ks)

apart : List (List ℕ × Form) → Bool
apart [] = true
apart ((w, f) ∷ ks) = far w ks && apart ks

far_so : (w : List ℕ) (ks : List (List ℕ × Form)) → far w ks ≡ true → Far w ks
unfolding far
far_so w [] e = tt
far_so w ((v, g) ∷ ks) e =
    let p = and_parts (not (begins w v)) (not (begins v w) && far w ks) e in
    let q = and_parts (not (begins v w)) (far w ks) p.1 in
    (not-true (begins w v) p.0, not-true (begins v w) q.0, far_so w ks q.1)

apart_so : (ks : List (List ℕ × Form)) → apart ks ≡ true → Apart ks
unfolding apart
apart_so [] e = tt
apart_so ((w, f) ∷ ks) e = let p = and_parts (far w ks) (apart ks) e in (far_so w ks p.0, apart_so ks p.1)

pub words_apart : (o : Sort) → Apart (words o)
unfolding apart far
words_apart Types = apart_so (words Types) refl
words_apart Worlds = apart_so (words Worlds) refl
words_apart Terms = apart_so (words Terms) refl
words_apart First = apart_so (words First) refl
words_apart Further = apart_so (words Further) refl

after_hit : (c b : ℕ) (w : List ℕ) (f : Form) (ks : List (List ℕ × Form)) → eqb c b ≡ true → after c ((b ∷ w, f) ∷ ks) ≡ (w, f) ∷ after c ks
after_hit c b w f ks e = simp e

pub in_after : (c : ℕ) (w : List ℕ) (f : Form) (ks : List (List ℕ × Form)) → In (c ∷ w) f ks → In w f (after c ks)
in_after c w f ks (here {ks = l}) = subst (λ (x : List (List ℕ × Form)). In w f x) (sym (after_hit c c w f l (eq-eqb c c refl))) here
in_after c w f ks (there {v = v} {g = g} {ks = l} m) = skip v (in_after c w f l m)
  where
    skip : (u : List ℕ) → In w f (after c l) → In w f (after c ((u, g) ∷ l))
    skip [] h = h
    skip (b ∷ u) h = elim (eqb c b) as (λ t. In w f (cond t ((u, g) ∷ after c l) (after c l))) [ true ↦ there h | false ↦ h ]

-- what goes on with c stays apart
pub far_after : (c : ℕ) (w : List ℕ) (ks : List (List ℕ × Form)) → Far (c ∷ w) ks → Far w (after c ks)
far_after c w [] h = tt
far_after c w (([], g) ∷ ks) h = far_after c w ks h.2
far_after c w ((b ∷ v, g) ∷ ks) h = at (eqb c b) refl (far_after c w ks h.2)
  where
    at : (t : Bool) → eqb c b ≡ t → Far w (after c ks) → Far w (cond t ((v, g) ∷ after c ks) (after c ks))
    at true e r = (rw e at h.0, rw (eq-eqb b c (sym (eqb-true c b e))) at h.1, r)
    at false e r = r

pub apart_after : (c : ℕ) (ks : List (List ℕ × Form)) → Apart ks → Apart (after c ks)
apart_after c [] h = tt
apart_after c (([], g) ∷ ks) h = apart_after c ks h.1
apart_after c ((b ∷ v, g) ∷ ks) h = at (eqb c b) refl (apart_after c ks h.1)
  where
    at : (t : Bool) → eqb c b ≡ t → Apart (after c ks) → Apart (cond t ((v, g) ∷ after c ks) (after c ks))
    at true e r = (far_after c v ks (subst (λ (x : ℕ). Far (x ∷ v) ks) (sym (eqb-true c b e)) h.0), r)
    at false e r = r

pub far_in : (u w : List ℕ) (f : Form) (ks : List (List ℕ × Form)) → Far u ks → In w f ks → (begins u w ≡ false) × (begins w u ≡ false)
far_in u w f ks h here = (h.0, h.1)
far_in u w f ks h (there {ks = l} m) = far_in u w f l h.2 m

pub valued_ge : (v : ℕ) (ds : List ℕ) → v ≤ valued v ds
valued_ge v [] = omega arith
valued_ge v (c ∷ ds) = let h = valued_ge (v * 10 + (c - 48)) ds in omega arith

-- what is wanted begins something with its first byte, and what begins behind that byte
abbrev pub mark : New → List Want → Bool
mark x [] = false
mark x (stop a ∷ ws) = false
mark x (number k a ∷ ws) = new_number x k
mark x (digits k p v a ∷ ws) = false
mark x (item o ∷ ws) = new_item x o
mark x (word o ks ∷ ws) = false

abbrev pub beyond : New → {ws : List Want} → Text ws → ℕ → List ℕ
beyond x end i = []
beyond x (past a t) i = places x t (i + 1)
beyond x (nought k a t) i = places x t (i + 2)
beyond x (some k a c ds h n hs l t) i = places x t (i + length ds + 2)
beyond x (rest k p v a ds hs l t) i = places x t (i + length ds + 1)
beyond x (pick o b d w f m t) i = places x t (i + length w + 2)
beyond x (spell o ks h b w f m t) i = places x t (i + length w + 1)

pub places_first : (x : New) {ws : List Want} (t : Text ws) (i : ℕ) → places x t i ≡ noted (mark x ws) i (beyond x t i)
places_first x end i = refl
places_first x (past a t) i = refl
places_first x (nought k a t) i = refl
places_first x (some k a c ds h n hs l t) i = refl
places_first x (rest k p v a ds hs l t) i = refl
places_first x (pick o b d w f m t) i = refl
places_first x (spell o ks h b w f m t) i = refl

-- what a move leaves to be read
abbrev pub Follows : (New → List ℕ) → ℕ → Move → List ℕ → Type 0
Follows L i (on ws s) bs = (t : Text ws) × (shown t ≡ bs) × ((x : New) → L x ≡ places x t (i + 1))
Follows L i (off n p) bs = n ≡ 11 → ⊥

-- a limit is another number
limit : (L : New → List ℕ) (i : ℕ) (b : Bool) (n p : ℕ) (m : Move) (bs : List ℕ) → (n ≡ 11 → ⊥) → Follows L i m bs → Follows L i (cond b (off n p) m) bs
limit L i true n p m bs h f = h
limit L i false n p m bs h f = f

began_follows : (o : Sort) (ks : List (List ℕ × Form)) (ws : List Want) (s : Seen) (i c d : ℕ) (w : List ℕ) (f : Form) → Apart ks → In (d ∷ w) f ks → (t : Text (wants f ws)) →
    Follows (λ x. places x t (i + length w + 2)) i (began o ks ws s i c) (d ∷ w ++ shown t)
began_follows o ((v, g) ∷ ks) ws s i c d w f h m t =
    let L : New → List ℕ = λ x. places x t (i + length w + 2) in
    limit L i (eqb c 40 && leb 64 s.depth) 12 i (cond (full o s) (off 13 i) (on (word o ((v, g) ∷ ks) ∷ ws) (begun o s))) (d ∷ w ++ shown t) (omega arith)
    (limit L i (full o s) 13 i (on (word o ((v, g) ∷ ks) ∷ ws) (begun o s)) (d ∷ w ++ shown t) (omega arith)
    (spell o ((v, g) ∷ ks) h d w f m t, refl, λ x. ap (places x t) (let z : i + length w + 2 ≡ i + 1 + length w + 1 = omega arith in z)))
began_follows o [] ws s i c d w f h m t = elim m [ ]

spelled_follows : (o : Sort) (ks : List (List ℕ × Form)) (ws : List Want) (s : Seen) (i c : ℕ) (w : List ℕ) (f : Form) → Apart ks → In w f ks → (t : Text (wants f ws)) →
    Follows (λ x. places x t (i + length w + 1)) i (spelled o ks ws s i c) (w ++ shown t)
spelled_follows o [] ws s i c w f h m t = elim m [ ]
spelled_follows o (([], g) ∷ ks) ws s i c w f h here t = (t, refl, λ x. ap (places x t) (let z : i + 0 + 1 ≡ i + 1 = omega arith in z))
spelled_follows o (([], g) ∷ ks) ws s i c w f h (there m) t = absurd (both_ways true (far_in [] w f ks h.0 m).0 refl)
spelled_follows o ((b ∷ v, g) ∷ ks) ws s i c (d ∷ w) f h m t =
    limit (λ x. places x t (i + length (d ∷ w) + 1)) i (many o c s) 14 (i - 1) (on (word o ((b ∷ v, g) ∷ ks) ∷ ws) s) (d ∷ w ++ shown t) (omega arith)
    (spell o ((b ∷ v, g) ∷ ks) h d w f m t, refl, λ x. ap (places x t) (let z : i + length (d ∷ w) + 1 ≡ i + 1 + length w + 1 = omega arith in z))
spelled_follows o ((b ∷ v, g) ∷ ks) ws s i c [] f h (there m) t = absurd (both_ways true (far_in (b ∷ v) [] f ks h.0 m).1 refl)

-- the byte that a text of what is wanted has first is taken
pub takes : {ws : List Want} (t : Text ws) (s : Seen) (i c : ℕ) (bs : List ℕ) → shown t ≡ c ∷ bs → Follows (λ x. beyond x t i) i (step ws s i c) bs
takes end s i c bs e = absurd (let z : ◌≡◌ {A = ℕ} 0 1 = cc in omega arith)
takes (past {ws} a t) s i c bs e =
    let p : c ≡ byte a = cc in
    let q : shown t ≡ bs = cc in
    subst (λ (x : Bool). Follows (λ x. places x t (i + 1)) i (cond x (on ws (passed a s)) (off 11 i)) bs) (sym (eq-eqb c (byte a) p)) (t, q, λ x. refl)
takes (nought {ws} k a t) s i c bs e =
    let p : c ≡ 48 = cc in
    let q : byte a ∷ shown t ≡ bs = cc in
    subst (λ (x : Bool). Follows (λ x. places x t (i + 2)) i (cond x (on (stop a ∷ ws) (push 0 s)) (cond (digit c) (on (digits k i (c - 48) a ∷ ws) s) (off 11 i))) bs) (sym (eq-eqb c 48 p))
    (past a t, q, λ x. ap (places x t) (let z : i + 2 ≡ i + 1 + 1 = omega arith in z))
takes (some {ws} k a d ds h n hs l t) s i c bs e =
    let p : d ≡ c = cc in
    let q : ds ++ byte a ∷ shown t ≡ bs = cc in
    let L : New → List ℕ = λ x. places x t (i + length ds + 2) in
    let l' : valued (c - 48) ds < 65536 = subst (λ (x : ℕ). valued (x - 48) ds < 65536) p l in
    subst (λ (x : Bool). Follows L i (cond x (on (stop a ∷ ws) (push 0 s)) (cond (digit c) (on (digits k i (c - 48) a ∷ ws) s) (off 11 i))) bs) (sym (ne_eqb c 48 (λ r. n (p ∙ r))))
    (subst (λ (x : Bool). Follows L i (cond x (on (digits k i (c - 48) a ∷ ws) s) (off 11 i)) bs) (sym (ap digit (sym p) ∙ h))
    (rest k i (c - 48) a ds hs l' t, q, λ x. ap (places x t) (let z : i + length ds + 2 ≡ i + 1 + length ds + 1 = omega arith in z)))
takes (rest {ws} k r v a [] hs l t) s i c bs e =
    let p : c ≡ byte a = cc in
    let q : shown t ≡ bs = cc in
    subst (λ (x : Bool). Follows (λ x. places x t (i + 0 + 1)) i (cond x (on ws (passed a (push v s))) (cond (digit c && ltb (v * 10 + (c - 48)) 65536) (cond (counted k (v * 10 + (c - 48))) (off 14 r) (on (digits k r (v * 10 + (c - 48)) a ∷ ws) s)) (off 11 i))) bs)
    (sym (eq-eqb c (byte a) p)) (t, q, λ x. ap (places x t) (let z : i + 0 + 1 ≡ i + 1 = omega arith in z))
takes (rest {ws} k r v a (d ∷ ds) hs l t) s i c bs e =
    let p : d ≡ c = cc in
    let q : ds ++ byte a ∷ shown t ≡ bs = cc in
    let L : New → List ℕ = λ x. places x t (i + length (d ∷ ds) + 1) in
    let l' : valued (v * 10 + (c - 48)) ds < 65536 = subst (λ (x : ℕ). valued (v * 10 + (x - 48)) ds < 65536) p l in
    let h : digit c ≡ true = ap digit (sym p) ∙ hs.0 in
    let m : v * 10 + (c - 48) < 65536 = omega (arith, valued_ge (v * 10 + (c - 48)) ds) in
    subst (λ (x : Bool). Follows L i (cond x (on ws (passed a (push v s))) (cond (digit c && ltb (v * 10 + (c - 48)) 65536) (cond (counted k (v * 10 + (c - 48))) (off 14 r) (on (digits k r (v * 10 + (c - 48)) a ∷ ws) s)) (off 11 i))) bs)
    (sym (ne_eqb c (byte a) (λ z. both_ways (digit (byte a)) (no_digit a) (ap digit (sym z) ∙ h))))
    (subst (λ (x : Bool). Follows L i (cond x (cond (counted k (v * 10 + (c - 48))) (off 14 r) (on (digits k r (v * 10 + (c - 48)) a ∷ ws) s)) (off 11 i)) bs) (sym (and_from (digit c) (ltb (v * 10 + (c - 48)) 65536) h (lt-ltb (v * 10 + (c - 48)) 65536 m)))
    (limit L i (counted k (v * 10 + (c - 48))) 14 r (on (digits k r (v * 10 + (c - 48)) a ∷ ws) s) bs (omega arith)
    (rest k r (v * 10 + (c - 48)) a ds hs.1 l' t, q, λ x. ap (places x t) (let z : i + length (d ∷ ds) + 1 ≡ i + 1 + length ds + 1 = omega arith in z))))
takes (pick {ws} o b d w f m t) s i c bs e =
    let p : b ≡ c = cc in
    let q : d ∷ w ++ shown t ≡ bs = cc in
    let m' : In (c ∷ d ∷ w) f (words o) = subst (λ (x : ℕ). In (x ∷ d ∷ w) f (words o)) p m in
    subst (λ (x : List ℕ). Follows (λ y. places y t (i + length w + 2)) i (began o (after c (words o)) ws s i c) x) q
    (began_follows o (after c (words o)) ws s i c d w f (apart_after c (words o) (words_apart o)) (in_after c (d ∷ w) f (words o) m') t)
takes (spell {ws} o ks h b w f m t) s i c bs e =
    let p : b ≡ c = cc in
    let q : w ++ shown t ≡ bs = cc in
    let m' : In (c ∷ w) f ks = subst (λ (x : ℕ). In (x ∷ w) f ks) p m in
    subst (λ (x : List ℕ). Follows (λ y. places y t (i + length w + 1)) i (spelled o (after c ks) ws s i c) x) q
    (spelled_follows o (after c ks) ws s i c w f (apart_after c ks h) (in_after c w f ks m') t)
