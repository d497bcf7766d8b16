-- Counts from the innermost and levels from the outermost.
use Rattle.std.proofs.Common.{◌≡◌, ℕ, zero, suc, ◌+◌, ◌-◌, ◌<◌, ◌≤◌, List, [], ◌∷◌, ◌++◌, length, sym, refl, ap, ◌∙◌, le_of_suc-le-suc, not-suc-le-zero, arith, length-append}
use native.Mathlib.Nat.{suc_inj}
use native.Mathlib.Decide.{dec_lt}
use mathlib.Core.Option.{none as nothing, some}
use lib.ListN.{get_elem?}
use Rattle.calculus.specs.Program.{raise, level_or, level}
use Rattle.calculus.proofs.Tables.{clash}

raise_is : (n j : ℕ) → raise n j ≡ n + j
raise_is zero j = omega arith
raise_is (suc n) j = let e = raise_is n (suc j) in omega arith

-- a count that is bound
pub level_bound : (n i b : ℕ) → i < n → level_or n i b ≡ n - suc i
level_bound zero i b h = absurd (not-suc-le-zero h)
level_bound (suc n) zero b h = let e = raise_is n 0 in omega arith
level_bound (suc n) (suc i) b h = let e = level_bound n i b (le_of_suc-le-suc h) in omega arith

-- a count that is not
pub level_free : (n i b : ℕ) → n ≤ i → level_or n i b ≡ b
level_free zero i b h = refl
level_free (suc n) zero b h = absurd (not-suc-le-zero h)
level_free (suc n) (suc i) b h = level_free n i b (le_of_suc-le-suc h)

module _ {A : Type 0} where
  at_last : (l : List A) (a : A) (n : ℕ) → n ≡ length l → get_elem? (l ++ (a ∷ [])) n ≡ some a
  at_last [] a zero e = refl
  at_last [] a (suc n) e = clash (cc)
  at_last (x ∷ l) a zero e = clash (cc)
  at_last (x ∷ l) a (suc n) e = at_last l a n (suc_inj e)

  before_last : (l : List A) (a : A) (n : ℕ) → n < length l → get_elem? (l ++ (a ∷ [])) n ≡ get_elem? l n
  before_last [] a n h = absurd (not-suc-le-zero h)
  before_last (x ∷ l) a zero h = refl
  before_last (x ∷ l) a (suc n) h = before_last l a n (le_of_suc-le-suc h)

  past_all : (l : List A) (n : ℕ) → length l ≤ n → get_elem? l n ≡ nothing
  past_all [] n h = refl
  past_all (x ∷ l) zero h = absurd (not-suc-le-zero h)
  past_all (x ∷ l) (suc n) h = past_all l n (le_of_suc-le-suc h)

  -- what a count from the innermost stands for: the one bound last, or one bound before it
  pub innermost_last : (l : List A) (a : A) → get_elem? (l ++ (a ∷ [])) (level (length (l ++ (a ∷ []))) 0) ≡ some a
  innermost_last l a =
      let e : length (l ++ (a ∷ [])) ≡ length l + 1 = length-append l (a ∷ []) in
      let n = length (l ++ (a ∷ [])) in
      let h = level_bound n 0 (raise n 0) (omega arith) in
      at_last l a (level n 0) (omega arith)

  pub innermost_before : (l : List A) (a : A) (i : ℕ) → get_elem? (l ++ (a ∷ [])) (level (length (l ++ (a ∷ []))) (suc i)) ≡ get_elem? l (level (length l) i)
  innermost_before l a i = by (dec_lt i (length l))
    where
      by : Dec (i < length l) → get_elem? (l ++ (a ∷ [])) (level (length (l ++ (a ∷ []))) (suc i)) ≡ get_elem? l (level (length l) i)
      by (yes h) =
          let e : length (l ++ (a ∷ [])) ≡ length l + 1 = length-append l (a ∷ []) in
          let n = length (l ++ (a ∷ [])) in
          let p = level_bound n (suc i) (raise n 0) (omega arith) in
          let q = level_bound (length l) i (raise (length l) 0) h in
          let s : level n (suc i) ≡ level (length l) i = omega arith in
          ap (get_elem? (l ++ (a ∷ []))) s ∙ before_last l a (level (length l) i) (omega arith)
      by (no h) =
          let e : length (l ++ (a ∷ [])) ≡ length l + 1 = length-append l (a ∷ []) in
          let n = length (l ++ (a ∷ [])) in
          let p = level_free n (suc i) (raise n 0) (omega arith) in
          let q = level_free (length l) i (raise (length l) 0) (omega arith) in
          let r = raise_is n 0 in
          let s = raise_is (length l) 0 in
          past_all (l ++ (a ∷ [])) (level n (suc i)) (omega arith) ∙ sym (past_all l (level (length l) i) (omega arith))
