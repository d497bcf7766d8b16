-- The digits of a number, and the number that digits are.
use Rattle.std.proofs.Common.{◌≡◌, ℕ, ◌+◌, ◌-◌, ◌*◌, ◌^◌, ◌<◌, ◌≤◌, true, leb, List, [], ◌∷◌, length, get_or, decimal, sym, refl, ap, ◌∙◌, subst, ⊎_elim, arith}
use Rattle.std.proofs.lemmas.Str.Parse.{IsNumeralModel, IsDigitsTest, FoldsDigits, numerals_by_fold}
use Rattle.std.proofs.lemmas.Fmt.{decimal-digits_value, digits_decimal, digits_value-decimal, first_decimal, decimal_digit, decimal_nonempty}
use Rattle.std.proofs.lemmas.Bool.{leb-true, le-leb, and_parts, and_from, cases_lt}
use Rattle.syntax.specs.Reading.{digit}
use Rattle.syntax.specs.Texts.{Digits, valued}

tells : IsDigitsTest Digits
tells = record {
  empty = tt;
  parts = λ c cs h. (let z = and_parts (leb 48 c) (leb c 57) h.0 in (leb-true 48 c z.0, leb-true c 57 z.1), h.1);
  more = λ c cs b h. (and_from (leb 48 c) (leb c 57) (le-leb 48 c b.0) (le-leb c 57 b.1), h);
}

folds : FoldsDigits valued
folds = record { empty = λ n. refl; more = λ n c cs b. refl }

pub own : IsNumeralModel Digits (valued 0)
own = numerals_by_fold Digits tells valued folds

-- how a number begins
pub record Head (n : ℕ) : Type 0 where
  pub c : ℕ
  pub ds : List ℕ
  pub is : decimal n ≡ c ∷ ds
  pub first : digit c ≡ true
  pub zero : (c ≡ 48) → (ds ≡ []) × (n ≡ 0)
  pub all : Digits ds
  pub value : valued (c - 48) ds ≡ n

wide : (n : ℕ) → n < 65536 → n < 2 ^ 64
wide n h = omega arith

start : (c : ℕ) (ds : List ℕ) → valued 0 (c ∷ ds) ≡ valued (c - 48) ds
start c ds = ap (λ x. valued x ds) (let z : 0 * 10 + (c - 48) ≡ c - 48 = omega arith in z)

pub head : (n : ℕ) → n < 65536 → Head n
head n h = at (decimal n) refl
  where
    at : (l : List ℕ) → decimal n ≡ l → Head n
    at [] e = absurd (let z = decimal_nonempty n (wide n h) in let y = ap (λ (x : List ℕ). length x) e in omega arith)
    at (c ∷ ds) e =
        let d : Digits (c ∷ ds) = subst Digits e (digits_decimal own n (wide n h)) in
        let v : valued 0 (c ∷ ds) ≡ n = subst (λ (x : List ℕ). valued 0 x ≡ n) e (digits_value-decimal own n (wide n h)) in
        record {
          c = c;
          ds = ds;
          is = e;
          first = d.0;
          all = d.1;
          value = sym (start c ds) ∙ v;
          zero = λ q. zeros (n_zero q) q;
        }
      where
        n_zero : c ≡ 48 → n ≡ 0
        n_zero z = ⊎_elim
            (λ (y : 0 < n). absurd (let f = first_decimal n y (wide n h) in let g : get_or (decimal n) 0 0 ≡ c = ap (λ (x : List ℕ). get_or x 0 0) e in omega arith))
            (λ (y : n ≤ 0). let w : n ≡ 0 = omega arith in w)
            (cases_lt 0 n)

        zeros : n ≡ 0 → c ≡ 48 → (ds ≡ []) × (n ≡ 0)
        zeros z q = (let y : decimal n ≡ 48 ∷ [] = ap decimal z ∙ decimal_digit 0 (omega arith) in cc, z)

-- digits with no zero first are what is written of their number
pub back : (c : ℕ) (ds : List ℕ) → digit c ≡ true → (c ≡ 48 → ⊥) → Digits ds → valued (c - 48) ds < 65536 → decimal (valued (c - 48) ds) ≡ c ∷ ds
back c ds h n hs l =
    subst (λ x. decimal x ≡ c ∷ ds) (start c ds)
    (decimal-digits_value own (c ∷ ds) (h, hs) (omega arith) (λ q. absurd (n q)) (wide (valued 0 (c ∷ ds)) (subst (λ x. x < 65536) (sym (start c ds)) l)))
