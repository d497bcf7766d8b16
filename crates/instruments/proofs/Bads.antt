use Rattle.std.proofs.Common.{◌≡◌, ℕ, zero, suc, ◌+◌, ◌-◌, ◌/◌, ◌%◌, ◌<◌, ◌≤◌, Bool, true, false, cond, ◌&&◌, eqb, leb, List, length, Some, None, Ok, Err, Option, refl, ap, ◌∙◌, ⊎_elim, arith}
use Rattle.std.proofs.lemmas.Bool.{cases_eq}
use Rattle.std.proofs.lemmas.Bool.Decides.{nat_tests}
use Rattle.lines.specs.declared.refusal.ImageFault.TheVariants.{Length}
use Rattle.instruments.specs.Layout.{Counts, Whole}
use Rattle.instruments.specs.Accepted.{site_bad, or_else, bad_from, checked, accepted}

lt_from : (s t : ℕ) → t ≤ s → (s ≡ t → ⊥) → t + 1 ≤ s
lt_from s t l q = omega arith

module _ (bs : List ℕ) where
  bad_next : (m s : ℕ) → s < m → bad_from bs s (m - s) ≡ or_else (site_bad bs s) (bad_from bs (s + 1) (m - (s + 1)))
  bad_next m s h = let e : m - s ≡ suc (m - (s + 1)) = omega arith in rw e

  pub bad_miss : (m s : ℕ) → s < m → site_bad bs s ≡ None → bad_from bs s (m - s) ≡ bad_from bs (s + 1) (m - (s + 1))
  bad_miss m s h e = bad_next m s h ∙ ap (λ (o : Option ℕ). or_else o (bad_from bs (s + 1) (m - (s + 1)))) e

  or_none : (a b : Option ℕ) → or_else a b ≡ None → (a ≡ None) × (b ≡ None)
  or_none None b e = (refl, e)
  or_none (Some x) b e = cc

  -- where no site has a bad byte, none of these has
  each_none : (k t s : ℕ) → bad_from bs t k ≡ None → t ≤ s → s < t + k → site_bad bs s ≡ None
  each_none zero t s e l h = absurd (omega arith)
  each_none (suc k) t s e l h =
      let p = or_none (site_bad bs t) (bad_from bs (t + 1) k) e in
      ⊎_elim (λ (q : s ≡ t). rw q p.0) (λ (q : s ≡ t → ⊥). each_none k (t + 1) s p.1 (lt_from s t l q) (omega arith)) (cases_eq s t)

  pub few_gauges : bad_from bs 0 (length bs / 140) ≡ None → Counts bs 0
  few_gauges e s h = let q = each_none (length bs / 140) 0 s e (omega arith) (omega arith) in grind (arith, nat_tests)

  pub few_gates : bad_from bs 0 (length bs / 140) ≡ None → Counts bs 1
  few_gates e s h = let q = each_none (length bs / 140) 0 s e (omega arith) (omega arith) in grind (arith, nat_tests)

passed : (bs : List ℕ) (n : ℕ) (t : Bool) (o : Option ℕ) → cond t (checked bs o) (Err (Length n)) ≡ Ok tt → (t ≡ true) × (o ≡ None)
passed bs n true None e = (refl, refl)
passed bs n true (Some p) e = cc
passed bs n false o e = cc

-- bytes that are accepted are whole sites with few registers
pub accepted_whole : (bs : List ℕ) → accepted bs ≡ Ok tt → Whole bs × Counts bs 0 × Counts bs 1
accepted_whole bs e =
    let p = passed bs (length bs) (leb 140 (length bs) && (leb (length bs) 2240 && eqb (length bs % 140) 0)) (bad_from bs 0 (length bs / 140)) e in
    let a : (140 ≤ length bs) × (length bs ≤ 2240) × (length bs % 140 ≡ 0) = grind (arith, nat_tests) in
    ((omega (arith, a.2), omega (arith, a.0), omega (arith, a.1)), few_gauges bs p.1, few_gates bs p.1)
