-- The first byte of an item.
use Rattle.std.proofs.Common.{◌≡◌, ℕ, ◌<◌, ◌≤◌, Bool, true, false, cond, ◌&&◌, ◌||◌, eqb, leb, ◌⊎◌, List, [], ◌∷◌, sym, refl, ap, ◌∙◌, subst, inl, inr, ⊎_elim}
use Rattle.std.proofs.lemmas.Bool.{eqb-true, le-leb, lt-leb, both_ways}
use Rattle.syntax.specs.Grammar.{Want, words}
use Rattle.syntax.specs.declared.grammar.Form.{Form}
use Rattle.syntax.specs.Grammar.Want.{item, word}
use Rattle.syntax.specs.declared.grammar.Sort.{Sort}
use Rattle.syntax.specs.declared.grammar.Sort.TheVariants.{Types, Worlds, Terms, First, Further}
use Rattle.syntax.specs.Reading.{Seen, Move, go, step, begun, full, began, after, spelled, many}
use Rattle.syntax.specs.Reading.Move.{on, off}
use Rattle.syntax.specs.Reading.Outcome.{refused}
use Rattle.syntax.specs.Views.{begins_item}
use Rattle.syntax.proofs.Steps.{go_by, go_some, moved}

split_or : (c : ℕ) → (eqb c 40 || eqb c 110) ≡ true → (c ≡ 40) ⊎ (c ≡ 110)
split_or c h = at (eqb c 40) refl h
  where
    at : (t : Bool) → eqb c 40 ≡ t → (t || eqb c 110) ≡ true → (c ≡ 40) ⊎ (c ≡ 110)
    at true e g = inl (eqb-true c 40 e)
    at false e g = inr (eqb-true c 110 g)

neither : (c : ℕ) → (eqb c 40 || eqb c 110) ≡ false → (eqb c 40 ≡ false) × (eqb c 110 ≡ false)
neither c h = at (eqb c 40) h
  where
    at : (t : Bool) → (t || eqb c 110) ≡ false → (t ≡ false) × (eqb c 110 ≡ false)
    at true g = absurd (both_ways true g refl)
    at false g = (refl, g)

none_begins : (o : Sort) (c : ℕ) → begins_item o c ≡ false → after c (words o) ≡ []
none_begins Types c h = let p = neither c h in simp (p.0, p.1)
none_begins Worlds c h = simp h
none_begins Terms c h = simp h
none_begins First c h = simp h
none_begins Further c h = simp h

by_full : (b : Bool) (bs : List ℕ) (i : ℕ) (m : Move) → moved bs i (cond b (off 13 i) m) ≡ cond b (refused 13 i) (moved bs i m)
by_full true bs i m = refl
by_full false bs i m = refl

-- the byte leaves the words l, each longer
begins_with : (o : Sort) (b : ℕ) (v : List ℕ) (f : Form) (l : List (List ℕ × Form)) (k : List Want) (s : Seen) (i c : ℕ) (bs : List ℕ) → (eqb c 40 && leb 64 s.depth) ≡ false → many o c (begun o s) ≡ false →
    moved bs i (began o ((b ∷ v, f) ∷ l) k s i c) ≡ cond (full o s) (refused 13 i) (moved bs i (spelled o ((b ∷ v, f) ∷ l) k (begun o s) i c))
begins_with o b v f l k s i c bs h m = rw (h, m) (by_full (full o s) bs i (on (word o ((b ∷ v, f) ∷ l) ∷ k) (begun o s)))

module _ (k : List Want) (s : Seen) (i : ℕ) (bs : List ℕ) where
  abbrev Begins : Sort → ℕ → Type 0
  Begins o c = moved bs i (step (item o ∷ k) s i c) ≡ cond (full o s) (refused 13 i) (moved bs i (step (word o (words o) ∷ k) (begun o s) i c))

  at_bracket : (o : Sort) → leb 64 s.depth ≡ false → Begins o 40
  at_bracket Types h = begins_with Types _ _ _ _ k s i 40 bs h refl
  at_bracket Worlds h = begins_with Worlds _ _ _ _ k s i 40 bs h refl
  at_bracket Terms h = begins_with Terms _ _ _ _ k s i 40 bs h refl
  at_bracket First h = begins_with First _ _ _ _ k s i 40 bs h refl
  at_bracket Further h = begins_with Further _ _ _ _ k s i 40 bs h refl

  at_word : Begins Types 110
  at_word = begins_with Types _ _ _ _ k s i 110 bs refl refl

  pub begins_at : (o : Sort) (c : ℕ) → begins_item o c ≡ true → (c ≡ 40 → s.depth < 64) → Begins o c
  begins_at Types c h d = ⊎_elim (λ (e : c ≡ 40). subst (λ (x : ℕ). Begins Types x) (sym e) (at_bracket Types (lt-leb 64 s.depth (d e)))) (λ (e : c ≡ 110). subst (λ (x : ℕ). Begins Types x) (sym e) at_word) (split_or c h)
  begins_at Worlds c h d = let e = eqb-true c 40 h in subst (λ (x : ℕ). Begins Worlds x) (sym e) (at_bracket Worlds (lt-leb 64 s.depth (d e)))
  begins_at Terms c h d = let e = eqb-true c 40 h in subst (λ (x : ℕ). Begins Terms x) (sym e) (at_bracket Terms (lt-leb 64 s.depth (d e)))
  begins_at First c h d = let e = eqb-true c 40 h in subst (λ (x : ℕ). Begins First x) (sym e) (at_bracket First (lt-leb 64 s.depth (d e)))
  begins_at Further c h d = let e = eqb-true c 40 h in subst (λ (x : ℕ). Begins Further x) (sym e) (at_bracket Further (lt-leb 64 s.depth (d e)))

module _ (r : List ℕ) (i : ℕ) (o : Sort) (k : List Want) (s : Seen) (c : ℕ) (bs : List ℕ) (e : r ≡ c ∷ bs) where
  pub item_refuses : begins_item o c ≡ false → go r (item o ∷ k) s i ≡ refused 11 i
  item_refuses h = go_by r (item o ∷ k) s i c bs e (off 11 i) (ap (λ (l : List (List ℕ × Form)). began o l k s i c) (none_begins o c h))

  deep_at : (q : Sort) → c ≡ 40 → 64 ≤ s.depth → step (item q ∷ k) s i 40 ≡ off 12 i
  deep_at Types q h = rw (le-leb 64 s.depth h)
  deep_at Worlds q h = rw (le-leb 64 s.depth h)
  deep_at Terms q h = rw (le-leb 64 s.depth h)
  deep_at First q h = rw (le-leb 64 s.depth h)
  deep_at Further q h = rw (le-leb 64 s.depth h)

  pub item_deep : c ≡ 40 → 64 ≤ s.depth → go r (item o ∷ k) s i ≡ refused 12 i
  item_deep q h = go_by r (item o ∷ k) s i 40 bs (e ∙ ap (λ x. x ∷ bs) q) (off 12 i) (deep_at o q h)

  pub item_begins : begins_item o c ≡ true → (c ≡ 40 → s.depth < 64) → go r (item o ∷ k) s i ≡ cond (full o s) (refused 13 i) (go r (word o (words o) ∷ k) (begun o s) i)
  item_begins h d = go_some r (item o ∷ k) s i c bs e ∙ begins_at k s i bs o c h d ∙ ap (λ x. cond (full o s) (refused 13 i) x) (sym (go_some r (word o (words o) ∷ k) (begun o s) i c bs e))
