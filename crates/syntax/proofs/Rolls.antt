-- The lines of a text: how each begins, and how it ends.
use Rattle.std.proofs.Common.{◌≡◌, ℕ, ◌+◌, ◌≤◌, Bool, true, false, eqb, List, [], ◌∷◌, length, drop, sym, refl, ap, ◌∙◌}
use Rattle.std.proofs.lemmas.Bool.{eqb-true, le-leb}
use Rattle.syntax.specs.Grammar.{Want, words, spelled_out}
use Rattle.syntax.specs.Grammar.Want.{word}
use Rattle.syntax.specs.declared.grammar.Form.{Form}
use Rattle.syntax.specs.declared.grammar.Form.TheVariants.{Run}
use Rattle.syntax.specs.declared.grammar.Sort.TheVariants.{Further}
use Rattle.syntax.specs.Reading.{Seen, go, after, spelled}
use Rattle.syntax.specs.Reading.Outcome.{refused}
use Rattle.syntax.specs.Views.{Clear}
use Rattle.syntax.proofs.Steps.{go_cons, moved}
use Rattle.syntax.proofs.Picks.{back}

-- the 17th line that begins "(s"
pub line_many : (k : List Want) (s : Seen) (i : ℕ) (bs : List ℕ) → 16 ≤ length s.stations → bs ≡ 40 ∷ 115 ∷ drop 2 bs → go bs (word Further (words Further) ∷ k) s i ≡ refused 14 i
line_many k s i bs h e =
    ap (λ (x : List ℕ). go x (word Further (words Further) ∷ k) s i) e
    ∙ go_cons 40 _ (word Further (words Further) ∷ k) s i
    ∙ go_cons 115 _ (word Further (after 40 (words Further)) ∷ k) s (i + 1)
    ∙ rw (le-leb 16 (length s.stations) h, back i)

-- otherwise only the run line's word can be there
module _ (k : List Want) (s : Seen) where
  -- the words that a byte leaves are the same
  alike : (l m : List (List ℕ × Form)) (i c : ℕ) (bs : List ℕ) → after c l ≡ after c m → go (c ∷ bs) (word Further l ∷ k) s i ≡ go (c ∷ bs) (word Further m ∷ k) s i
  alike l m i c bs e = go_cons c bs (word Further l ∷ k) s i ∙ ap (λ (x : List (List ℕ × Form)). moved bs i (spelled Further x k s i c)) e ∙ sym (go_cons c bs (word Further m ∷ k) s i)

  second : (i : ℕ) (bs : List ℕ) → ((r : List ℕ) → bs ≡ 115 ∷ r → ⊥) →
      go bs (word Further (after 40 (words Further)) ∷ k) s i ≡ go bs (word Further (after 40 (spelled_out (Run ∷ []))) ∷ k) s i
  unfolding go
  second i [] n = refl
  second i (c ∷ bs) n = at (eqb c 115) refl
    where
      at : (t : Bool) → eqb c 115 ≡ t → go (c ∷ bs) (word Further (after 40 (words Further)) ∷ k) s i ≡ go (c ∷ bs) (word Further (after 40 (spelled_out (Run ∷ []))) ∷ k) s i
      at true e = absurd (n bs (ap (λ x. x ∷ bs) (eqb-true c 115 e)))
      at false e = alike (after 40 (words Further)) (after 40 (spelled_out (Run ∷ []))) i c bs (simp e)

  pub line_run : (i : ℕ) (bs : List ℕ) → ((r : List ℕ) → bs ≡ 40 ∷ 115 ∷ r → ⊥) →
      go bs (word Further (words Further) ∷ k) s i ≡ go bs (word Further (spelled_out (Run ∷ [])) ∷ k) s i
  unfolding go
  line_run i [] n = refl
  line_run i (c ∷ bs) n = at (eqb c 40) refl
    where
      at : (t : Bool) → eqb c 40 ≡ t → go (c ∷ bs) (word Further (words Further) ∷ k) s i ≡ go (c ∷ bs) (word Further (spelled_out (Run ∷ [])) ∷ k) s i
      at true e =
          let q : c ≡ 40 = eqb-true c 40 e in
          ap (λ x. go (x ∷ bs) (word Further (words Further) ∷ k) s i) q ∙ go_cons 40 bs (word Further (words Further) ∷ k) s i
          ∙ second (i + 1) bs (λ r z. n r (ap (λ x. x ∷ bs) q ∙ ap (λ l. 40 ∷ l) z))
          ∙ sym (ap (λ x. go (x ∷ bs) (word Further (spelled_out (Run ∷ [])) ∷ k) s i) q ∙ go_cons 40 bs (word Further (spelled_out (Run ∷ [])) ∷ k) s i)
      at false e = alike (words Further) (spelled_out (Run ∷ [])) i c bs (simp e)

-- no byte of the run line's word is refused
pub run_clear : (s : Seen) → Clear Further s (spelled_out (Run ∷ []))
run_clear s = ((refl, (refl, (refl, (refl, (refl, tt))))), tt)
