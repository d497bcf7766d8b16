-- A word followed byte by byte is a word compared at once.
use Rattle.std.proofs.Common.{◌≡◌, ℕ, ◌+◌, true, false, List, [], ◌∷◌, ◌++◌, length, refl, ap, ◌∙◌, arith}
use Rattle.std.proofs.lemmas.Bool.{both_ways}
use Rattle.syntax.specs.Grammar.{Want, wants}
use Rattle.syntax.specs.Grammar.Want.{word}
use Rattle.syntax.specs.Reading.{Seen, go, after, spelled, many, opened}
use Rattle.syntax.specs.Texts.{In, Apart}
use Rattle.syntax.specs.Texts.In.{here, there}
use Rattle.syntax.specs.declared.grammar.Form.{Form}
use Rattle.syntax.specs.declared.grammar.Sort.{Sort}
use Rattle.syntax.proofs.Steps.{go_cons, moved}
use Rattle.syntax.proofs.Theory.{in_after, apart_after, far_in}

-- the word that is there
module _ (o : Sort) (ws : List Want) (s : Seen) (free : (c : ℕ) → many o c s ≡ false) where
  hit_at : (c i : ℕ) (more : List ℕ) (w : List ℕ) (f : Form) (l : List (List ℕ × Form)) → Apart l → In w f l →
      ((d : ℕ) (v : List ℕ) → w ≡ d ∷ v → go (w ++ more) (word o l ∷ ws) s (i + 1) ≡ go more (wants f ws) (opened f s) (i + 1 + length w)) →
      moved (w ++ more) i (spelled o l ws s i c) ≡ go more (wants f ws) (opened f s) (i + 1 + length w)
  hit_at c i more w f [] h m r = elim m [ ]
  hit_at c i more w f (([], g) ∷ l) h here r = ap (go more (wants f ws) (opened f s)) (let z : i + 1 ≡ i + 1 + 0 = omega arith in z)
  hit_at c i more w f (([], g) ∷ l) h (there m) r = absurd (both_ways true (far_in [] w f l h.0 m).0 refl)
  hit_at c i more [] f ((b ∷ v, g) ∷ l) h (there m) r = absurd (both_ways true (far_in (b ∷ v) [] f l h.0 m).1 refl)
  hit_at c i more (d ∷ w) f ((b ∷ v, g) ∷ l) h m r = rw (free c) (r d w refl)

  pub hit : (b : ℕ) (w : List ℕ) (f : Form) (ks : List (List ℕ × Form)) (i : ℕ) (more : List ℕ) → Apart ks → In (b ∷ w) f ks →
      go (b ∷ w ++ more) (word o ks ∷ ws) s i ≡ go more (wants f ws) (opened f s) (i + 1 + length w)
  hit b [] f ks i more h m = go_cons b more (word o ks ∷ ws) s i ∙ hit_at b i more [] f (after b ks) (apart_after b ks h) (in_after b [] f ks m) (λ d v e. absurd (let z : ◌≡◌ {A = ℕ} 0 1 = cc in omega arith))
  hit b (d ∷ w) f ks i more h m = go_cons b (d ∷ w ++ more) (word o ks ∷ ws) s i ∙ hit_at b i more (d ∷ w) f (after b ks) (apart_after b ks h) (in_after b (d ∷ w) f ks m)
      (λ x y e. hit d w f (after b ks) (i + 1) more (apart_after b ks h) (in_after b (d ∷ w) f ks m) ∙ ap (go more (wants f ws) (opened f s)) (let z : i + 1 + 1 + length w ≡ i + 1 + length (d ∷ w) = omega arith in z))
