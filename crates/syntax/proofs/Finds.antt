-- A word followed byte by byte is a word compared at once.
use Rattle.std.proofs.Common.{◌≡◌, ℕ, zero, suc, ◌+◌, ◌<◌, ◌≤◌, max, Bool, true, false, cond, eqb, List, [], ◌∷◌, ◌++◌, length, get_or, take, drop, Ok, sym, refl, ap, ◌∙◌, subst, arith}
use Rattle.std.specs.Prelude.{◌==◌, take_while}
use Rattle.std.specs.List.{zip, prefix_len}
use Rattle.std.proofs.lemmas.List.Folds.{length-prefix_len}
use Rattle.std.proofs.lemmas.List.{take_more, drop-drop}
use Rattle.std.proofs.lemmas.Bool.{eqb-true, both_ways}
use Rattle.syntax.specs.Grammar.{Want, wants, spelling, spelled_out}
use Rattle.syntax.specs.Grammar.Want.{word}
use Rattle.syntax.specs.Reading.{Seen, go, after, spelled, many, opened}
use Rattle.syntax.specs.Reading.Outcome.{refused}
use Rattle.syntax.specs.Texts.{In, Apart}
use Rattle.syntax.specs.Texts.In.{here, there}
use Rattle.syntax.specs.Views.{agreed, Misses, farthest, Found, Clean, Clear}
use Rattle.syntax.specs.declared.grammar.Form.{Form}
use Rattle.syntax.specs.declared.grammar.Sort.{Sort}
use Rattle.syntax.proofs.Steps.{go_cons, moved}
use Rattle.syntax.proofs.Theory.{in_after, apart_after, far_in}
use Rattle.syntax.proofs.Rows.{spelt}

-- the bytes of both, taken while they agree
pub agreed_taken : (w s : List ℕ) → length (take_while (λ (p : ℕ × ℕ). p.1 == p.0) (zip w s)) ≡ agreed w s
agreed_taken w s = length-prefix_len _ (zip w s) ∙ many w s
  where
    many : (w s : List ℕ) → prefix_len (λ (p : ℕ × ℕ). p.1 == p.0) (zip w s) ≡ agreed w s
    many [] s = refl
    many (x ∷ w) [] = refl
    many (x ∷ w) (y ∷ s) = ap (λ n. cond (y == x) n 0) (let z : 1 + prefix_len (λ (p : ℕ × ℕ). p.1 == p.0) (zip w s) ≡ agreed w s + 1 = omega (arith, many w s) in z)

agreed_nil : (w : List ℕ) → agreed w [] ≡ 0
agreed_nil [] = refl
agreed_nil (x ∷ w) = refl

pub agreed_le : (w s : List ℕ) → (agreed w s ≤ length w) × (agreed w s ≤ length s)
agreed_le [] s = (omega arith, omega arith)
agreed_le (x ∷ w) [] = (omega arith, omega arith)
agreed_le (x ∷ w) (y ∷ s) = at (eqb y x) (agreed_le w s)
  where
    at : (t : Bool) → (agreed w s ≤ length w) × (agreed w s ≤ length s) → (cond t (agreed w s + 1) 0 ≤ length (x ∷ w)) × (cond t (agreed w s + 1) 0 ≤ length (y ∷ s))
    at true p = (omega arith, omega arith)
    at false p = (omega arith, omega arith)

-- a word that agrees throughout begins the text
pub agreed_all : (w s : List ℕ) → agreed w s ≡ length w → s ≡ w ++ drop (length w) s
agreed_all [] s e = refl
agreed_all (x ∷ w) [] e = absurd (omega arith)
agreed_all (x ∷ w) (y ∷ s) e = at (eqb y x) refl e (λ q. agreed_all w s q)
  where
    at : (t : Bool) → eqb y x ≡ t → cond t (agreed w s + 1) 0 ≡ length (x ∷ w) → (agreed w s ≡ length w → s ≡ w ++ drop (length w) s) → y ∷ s ≡ (x ∷ w) ++ drop (length (x ∷ w)) (y ∷ s)
    at true q p r = let z : agreed w s ≡ length w = omega arith in ap (λ a. a ∷ s) (eqb-true y x q) ∙ ap (λ l. x ∷ l) (r z)
    at false q p r = absurd (omega arith)

-- the word that is there
module _ (o : Sort) (ws : List Want) (s : Seen) where
  hit_at : (c i : ℕ) (more : List ℕ) (w : List ℕ) (f : Form) (l : List (List ℕ × Form)) → many o c s ≡ false → Apart l → In w f l →
      ((d : ℕ) (v : List ℕ) → w ≡ d ∷ v → go (w ++ more) (word o l ∷ ws) s (i + 1) ≡ go more (wants f ws) (opened f s) (i + 1 + length w)) →
      moved (w ++ more) i (spelled o l ws s i c) ≡ go more (wants f ws) (opened f s) (i + 1 + length w)
  hit_at c i more w f [] free h m r = elim m [ ]
  hit_at c i more w f (([], g) ∷ l) free h here r = ap (go more (wants f ws) (opened f s)) (let z : i + 1 ≡ i + 1 + 0 = omega arith in z)
  hit_at c i more w f (([], g) ∷ l) free h (there m) r = absurd (both_ways true (far_in [] w f l h.0 m).0 refl)
  hit_at c i more [] f ((b ∷ v, g) ∷ l) free h (there m) r = absurd (both_ways true (far_in (b ∷ v) [] f l h.0 m).1 refl)
  hit_at c i more (d ∷ w) f ((b ∷ v, g) ∷ l) free h m r = rw free (r d w refl)

  pub hit : (b : ℕ) (w : List ℕ) (f : Form) (ks : List (List ℕ × Form)) (i : ℕ) (more : List ℕ) → Clean o s (b ∷ w) → Apart ks → In (b ∷ w) f ks →
      go (b ∷ w ++ more) (word o ks ∷ ws) s i ≡ go more (wants f ws) (opened f s) (i + 1 + length w)
  hit b [] f ks i more free h m = go_cons b more (word o ks ∷ ws) s i ∙ hit_at b i more [] f (after b ks) free.0 (apart_after b ks h) (in_after b [] f ks m) (λ d v e. absurd (let z : ◌≡◌ {A = ℕ} 0 1 = cc in omega arith))
  hit b (d ∷ w) f ks i more free h m = go_cons b (d ∷ w ++ more) (word o ks ∷ ws) s i ∙ hit_at b i more (d ∷ w) f (after b ks) free.0 (apart_after b ks h) (in_after b (d ∷ w) f ks m)
      (λ x y e. hit d w f (after b ks) (i + 1) more free.1 (apart_after b ks h) (in_after b (d ∷ w) f ks m) ∙ ap (go more (wants f ws) (opened f s)) (let z : i + 1 + 1 + length w ≡ i + 1 + length (d ∷ w) = omega arith in z))

abbrev Nears : List (List ℕ × Form) → ℕ → List ℕ → Type 0
Nears [] n bs = n ≡ 0
Nears (x ∷ l) n bs = n ≡ farthest (x ∷ l) bs + 1

nears_zero : (l : List (List ℕ × Form)) (n : ℕ) (bs : List ℕ) → Nears l n bs → Nears l (max 0 n) bs
nears_zero [] n bs h = omega arith
nears_zero (x ∷ l) n bs h = let z : max 0 n ≡ n = omega arith in z ∙ h

nears_more : (v : List ℕ) (f : Form) (l : List (List ℕ × Form)) (n : ℕ) (bs : List ℕ) → Nears l n bs → max (agreed v bs + 1) n ≡ max (agreed v bs) (farthest l bs) + 1
nears_more v f [] n bs h = omega arith
nears_more v f ((w, g) ∷ l) n bs h = let k : n ≡ max (agreed w bs) (farthest l bs) + 1 = h in omega arith

nears : (c : ℕ) (bs : List ℕ) (ks : List (List ℕ × Form)) → Nears (after c ks) (farthest ks (c ∷ bs)) bs
nears c bs [] = refl
nears c bs (([], f) ∷ ks) = nears_zero (after c ks) (farthest ks (c ∷ bs)) bs (nears c bs ks)
nears c bs ((b ∷ v, f) ∷ ks) = at (eqb c b) (nears c bs ks)
  where
    at : (t : Bool) → Nears (after c ks) (farthest ks (c ∷ bs)) bs → Nears (cond t ((v, f) ∷ after c ks) (after c ks)) (max (cond t (agreed v bs + 1) 0) (farthest ks (c ∷ bs))) bs
    at true h = nears_more v f (after c ks) (farthest ks (c ∷ bs)) bs h
    at false h = nears_zero (after c ks) (farthest ks (c ∷ bs)) bs h

misses_after : (c : ℕ) (bs : List ℕ) (ks : List (List ℕ × Form)) → Misses ks (c ∷ bs) → Misses (after c ks) bs
misses_after c bs [] h = tt
misses_after c bs (([], f) ∷ ks) h = misses_after c bs ks h.1
misses_after c bs ((b ∷ v, f) ∷ ks) h = at (eqb c b) h.0 (misses_after c bs ks h.1)
  where
    at : (t : Bool) → cond t (agreed v bs + 1) 0 < length (b ∷ v) → Misses (after c ks) bs → Misses (cond t ((v, f) ∷ after c ks) (after c ks)) bs
    at true p r = (omega arith, r)
    at false p r = r

farthest_nil : (ks : List (List ℕ × Form)) → farthest ks [] ≡ 0
farthest_nil [] = refl
farthest_nil ((w, f) ∷ ks) = rw (agreed_nil w, farthest_nil ks)

module _ (o : Sort) (s : Seen) where
  -- a byte that words go on with is one of theirs
  abbrev Free : ℕ → List (List ℕ × Form) → Type 0
  Free c [] = Unit {0}
  Free c (x ∷ l) = many o c s ≡ false

  free_after : (c : ℕ) (ks : List (List ℕ × Form)) → Clear o s ks → Free c (after c ks)
  free_after c [] h = tt
  free_after c (([], f) ∷ ks) h = free_after c ks h.1
  free_after c ((b ∷ v, f) ∷ ks) h = at (eqb c b) refl (free_after c ks h.1)
    where
      at : (t : Bool) → eqb c b ≡ t → Free c (after c ks) → Free c (cond t ((v, f) ∷ after c ks) (after c ks))
      at true e r = subst (λ (x : ℕ). many o x s ≡ false) (sym (eqb-true c b e)) h.0.0
      at false e r = r

  clear_after : (c : ℕ) (ks : List (List ℕ × Form)) → Clear o s ks → Clear o s (after c ks)
  clear_after c [] h = tt
  clear_after c (([], f) ∷ ks) h = clear_after c ks h.1
  clear_after c ((b ∷ v, f) ∷ ks) h = at (eqb c b) (clear_after c ks h.1)
    where
      at : (t : Bool) → Clear o s (after c ks) → Clear o s (cond t ((v, f) ∷ after c ks) (after c ks))
      at true r = (h.0.1, r)
      at false r = r

  clean_in : (w : List ℕ) (f : Form) (ks : List (List ℕ × Form)) → Clear o s ks → In w f ks → Clean o s w
  clean_in w f ks h here = h.0
  clean_in w f ks h (there {ks = l} m) = clean_in w f l h.1 m

  module _ (ws : List Want) where
    miss_at : (c i n : ℕ) (bs : List ℕ) (l : List (List ℕ × Form)) → Free c l → Misses l bs → Nears l n bs → go bs (word o l ∷ ws) s (i + 1) ≡ refused 11 (i + 1 + farthest l bs) → moved bs i (spelled o l ws s i c) ≡ refused 11 (i + n)
    miss_at c i n bs [] free h k r = ap (refused 11) (let z : i ≡ i + n = omega arith in z)
    miss_at c i n bs (([], f) ∷ l) free h k r = absurd (let z = h.0 in omega arith)
    miss_at c i n bs ((b ∷ v, f) ∷ l) free h k r = rw free (r ∙ ap (refused 11) (let z : i + 1 + farthest ((b ∷ v, f) ∷ l) bs ≡ i + n = omega arith in z))

    pub miss : (bs : List ℕ) (ks : List (List ℕ × Form)) (i : ℕ) → Clear o s ks → Misses ks bs → go bs (word o ks ∷ ws) s i ≡ refused 11 (i + farthest ks bs)
    unfolding go
    miss [] ks i free h = ap (refused 11) (let e = farthest_nil ks in let z : i ≡ i + farthest ks [] = omega arith in z)
    miss (c ∷ bs) ks i free h = go_cons c bs (word o ks ∷ ws) s i ∙ miss_at c i (farthest ks (c ∷ bs)) bs (after c ks) (free_after c ks free) (misses_after c bs ks h) (nears c bs ks) (miss bs (after c ks) (i + 1) (clear_after c ks free) (misses_after c bs ks h))

-- the loop over forms
pub misses_push : (fs : List Form) (f : Form) (bs : List ℕ) → Misses (spelled_out fs) bs → agreed (spelling f) bs < length (spelling f) → Misses (spelled_out (fs ++ f ∷ [])) bs
misses_push [] f bs h k = (k, tt)
misses_push (g ∷ fs) f bs h k = (h.0, misses_push fs f bs h.1 k)

pub farthest_push : (fs : List Form) (f : Form) (bs : List ℕ) → farthest (spelled_out (fs ++ f ∷ [])) bs ≡ max (farthest (spelled_out fs) bs) (agreed (spelling f) bs)
farthest_push [] f bs = omega arith
farthest_push (g ∷ fs) f bs = let e = farthest_push fs f bs in omega arith

pub in_forms : (fs : List Form) (i : ℕ) (d : Form) → i < length fs → In (spelling (get_or fs i d)) (get_or fs i d) (spelled_out fs)
in_forms [] i d h = absurd (omega arith)
in_forms (f ∷ fs) zero d h = here
in_forms (f ∷ fs) (suc i) d h = there (in_forms fs i d (omega arith))

spells : (f : Form) → 0 < length (spelling f)
spells f = let e = ap length (spelt f).0 in omega arith

pub found_at : (fs : List Form) (i n : ℕ) (d : Form) (w bs : List ℕ) → i < length fs → w ≡ spelling (get_or fs i d) → n ≡ agreed w bs → n ≡ length w → Found fs bs (Ok (get_or fs i d))
found_at fs i n d w bs h q a b =
    let all : agreed (spelling (get_or fs i d)) bs ≡ length (spelling (get_or fs i d)) = subst (λ (x : List ℕ). agreed x bs ≡ length x) q (sym a ∙ b) in (
      in_forms fs i d h,
      agreed_all (spelling (get_or fs i d)) bs all,
      omega (arith, (agreed_le (spelling (get_or fs i d)) bs).1),
    )

pub misses_more : (fs : List Form) (i n : ℕ) (d : Form) (w bs : List ℕ) (far far' : ℕ) → i < length fs → w ≡ spelling (get_or fs i d) → n ≡ agreed w bs → (n ≡ length w → ⊥) →
    (Misses (spelled_out (take i fs)) bs × (far ≡ farthest (spelled_out (take i fs)) bs) × (far ≤ length bs)) → far' ≡ max far n →
    Misses (spelled_out (take (i + 1) fs)) bs × (far' ≡ farthest (spelled_out (take (i + 1) fs)) bs) × (far' ≤ length bs)
misses_more fs i n d w bs far far' h q a b v e =
    let n-is : n ≡ agreed (spelling (get_or fs i d)) bs = a ∙ ap (λ (x : List ℕ). agreed x bs) q in
    let l-is : length w ≡ length (spelling (get_or fs i d)) = ap length q in
    let le = agreed_le (spelling (get_or fs i d)) bs in
    let ne : n ≡ length (spelling (get_or fs i d)) → ⊥ = λ z. b (z ∙ sym l-is) in
    let m : Misses (spelled_out (take i fs ++ get_or fs i d ∷ [])) bs = misses_push (take i fs) (get_or fs i d) bs v.0 (omega arith) in
    let g : far' ≡ farthest (spelled_out (take i fs ++ get_or fs i d ∷ [])) bs = omega (arith, farthest_push (take i fs) (get_or fs i d) bs) in
    (rw (take_more fs i d h) m, rw (take_more fs i d h) g, omega arith)

module _ (o : Sort) (k : List Want) (s : Seen) (fs : List Form) (text bs : List ℕ) (pos : ℕ) (same : bs ≡ drop pos text) where
  hit_any : (w : List ℕ) (f : Form) (more : List ℕ) → 0 < length w → Clean o s w → Apart (spelled_out fs) → In w f (spelled_out fs) → go (w ++ more) (word o (spelled_out fs) ∷ k) s pos ≡ go more (wants f k) (opened f s) (pos + length w)
  hit_any [] f more h free a m = absurd (omega arith)
  hit_any (b ∷ w) f more h free a m = hit o k s b w f (spelled_out fs) pos more free a m ∙ ap (go more (wants f k) (opened f s)) (let z : pos + 1 + length w ≡ pos + length (b ∷ w) = omega arith in z)

  pub word_found : (f : Form) (w : List ℕ) → Clear o s (spelled_out fs) → Apart (spelled_out fs) → In (spelling f) f (spelled_out fs) → bs ≡ spelling f ++ drop (length (spelling f)) bs → w ≡ spelling f →
      go (drop pos text) (word o (spelled_out fs) ∷ k) s pos ≡ go (drop (pos + length w) text) (wants f k) (opened f s) (pos + length w)
  word_found f w free a m e q =
      ap (λ (x : List ℕ). go x (word o (spelled_out fs) ∷ k) s pos) (sym same ∙ e)
      ∙ hit_any (spelling f) f (drop (length (spelling f)) bs) (spells f) (clean_in o s (spelling f) f (spelled_out fs) free m) a m
      ∙ ap (λ (x : List ℕ). go x (wants f k) (opened f s) (pos + length (spelling f))) (ap (drop (length (spelling f))) same ∙ drop-drop (length (spelling f)) pos text)
      ∙ ap (λ (x : List ℕ). go (drop (pos + length x) text) (wants f k) (opened f s) (pos + length x)) (sym q)

  pub word_missed : (far : ℕ) → Clear o s (spelled_out fs) → Misses (spelled_out fs) bs → far ≡ farthest (spelled_out fs) bs → go (drop pos text) (word o (spelled_out fs) ∷ k) s pos ≡ refused 11 (pos + far)
  word_missed far free h e = ap (λ (x : List ℕ). go x (word o (spelled_out fs) ∷ k) s pos) (sym same) ∙ miss o s k bs (spelled_out fs) pos free h ∙ ap (λ (x : ℕ). refused 11 (pos + x)) (sym e)
