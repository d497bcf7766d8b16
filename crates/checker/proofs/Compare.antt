-- Comparing two types of a table row by row.
use Rattle.std.proofs.Common.{◌≡◌, ℕ, zero, suc, ◌+◌, ◌<◌, ◌≤◌, false, List, [], ◌∷◌, length, get_or, take, refl, ap, ◌∙◌, subst, ⊎_elim, arith}
use Rattle.std.proofs.lemmas.List.{length-take-le, get_or-take}
use Rattle.std.proofs.lemmas.Bool.{cases_lt}
use Rattle.syntax.specs.declared.program.Ty.{Ty as TypeRow}
use Rattle.syntax.specs.declared.program.Ty.TheVariants as Row
use Rattle.calculus.specs.Types.{Ty, num, none, fn, box, at, both}
use Rattle.calculus.specs.Program.{grow_type, AboveType, Sorted}
use Rattle.checker.specs.TypeTable.{meaning, Below, Laid}
use Rattle.checker.specs.Comparing.{alike}
use Rattle.checker.proofs.Table.{meaning_at}

pub sorted_at : {A : Type 0} (Q : ℕ → A → Type 0) (k : ℕ) (xs : List A) (n m : ℕ) (d : A) → Sorted Q k xs → n < length xs → m ≡ k + n → Q m (get_or xs n d)
sorted_at Q k [] n m d s h e = absurd (omega arith)
sorted_at Q k (x ∷ xs) zero m d s h e = subst (λ j. Q j x) (let z : k ≡ m = omega arith in z) s.0
sorted_at Q k (x ∷ xs) (suc n) m d s h e = sorted_at Q (suc k) xs n m d s.1 (omega arith) (omega arith)

wider : (n m : ℕ) (r : TypeRow) → n ≤ m → Below n r → Below m r
wider n m Row.Num h b = tt
wider n m Row.Never h b = tt
wider n m (Row.Fn x y) h b = omega arith
wider n m (Row.Boxed x) h b = omega arith
wider n m (Row.At x) h b = omega arith
wider n m (Row.Both x y) h b = omega arith

module _ (w : ℕ) (rows : List TypeRow) (laid : Laid w rows) where
  -- parts have numbers of the table
  pub parts_in : (n : ℕ) (r : TypeRow) → n < length rows → get_or rows n Row.Num ≡ r → Below (length rows) r
  parts_in n r h e =
      ⊎_elim (λ (l : n < w). wider w (length rows) r laid.some (laid.written n r l e)) (λ (l : w ≤ n). wider n (length rows) r (omega arith) (laid.built n r l h e)) (cases_lt n w)

  -- the parts of a written row stand behind it
  pub parts_behind : (n : ℕ) (r : TypeRow) → n < w → get_or rows n Row.Num ≡ r → AboveType n r
  parts_behind n r h e =
      subst (λ (x : TypeRow). AboveType n x) (get_or-take w rows n Row.Num h ∙ e)
      (sorted_at AboveType 0 (take w rows) n n Row.Num laid.ordered (omega (arith, length-take-le w rows laid.some)) (omega arith))

  pub compare_at : (i j : ℕ) (r s : TypeRow) → i < length rows → j < length rows → get_or rows i Row.Num ≡ r → get_or rows j Row.Num ≡ s
      → alike (meaning w rows i) (meaning w rows j) ≡ alike (grow_type (meaning w rows) r) (grow_type (meaning w rows) s)
  compare_at i j r s h k e f = ap (λ x. alike x (meaning w rows j)) (meaning_at w rows laid i r h e) ∙ ap (λ x. alike (grow_type (meaning w rows) r) x) (meaning_at w rows laid j s k f)

-- type a with row r, and the written type b with row s
pub record Side (w : ℕ) (rows : List TypeRow) (a b : ℕ) (r s : TypeRow) : Type 0 where
  pub inside : Below (length rows) r
  pub within : Below w s
  pub behind : AboveType b s
  pub is : alike (meaning w rows a) (meaning w rows b) ≡ alike (grow_type (meaning w rows) r) (grow_type (meaning w rows) s)

pub side : {w : ℕ} {rows : List TypeRow} {a b : ℕ} {r s : TypeRow} → Laid w rows → a < length rows → b < w → get_or rows a Row.Num ≡ r → get_or rows b Row.Num ≡ s → Side w rows a b r s
side {w} {rows} {a} {b} {r} {s} laid h k e f =
    record {
      inside = parts_in w rows laid a r h e;
      within = laid.written b s k f;
      behind = parts_behind w rows laid b s k f;
      is = compare_at w rows laid a b r s h (omega (arith, laid.some)) e f;
    }

-- rows of different forms
module _ (f : ℕ → Ty) where
  pub not_num : (r : TypeRow) → (r ≡ Row.Num → ⊥) → alike num (grow_type f r) ≡ false
  not_num Row.Num h = absurd (h refl)
  not_num Row.Never h = refl
  not_num (Row.Fn x y) h = refl
  not_num (Row.Boxed x) h = refl
  not_num (Row.At x) h = refl
  not_num (Row.Both x y) h = refl

  pub not_none : (r : TypeRow) → (r ≡ Row.Never → ⊥) → alike none (grow_type f r) ≡ false
  not_none Row.Num h = refl
  not_none Row.Never h = absurd (h refl)
  not_none (Row.Fn x y) h = refl
  not_none (Row.Boxed x) h = refl
  not_none (Row.At x) h = refl
  not_none (Row.Both x y) h = refl

  pub not_fn : (A B : Ty) (r : TypeRow) → ((x y : ℕ) → r ≡ Row.Fn x y → ⊥) → alike (fn A B) (grow_type f r) ≡ false
  not_fn A B Row.Num h = refl
  not_fn A B Row.Never h = refl
  not_fn A B (Row.Fn x y) h = absurd (h x y refl)
  not_fn A B (Row.Boxed x) h = refl
  not_fn A B (Row.At x) h = refl
  not_fn A B (Row.Both x y) h = refl

  pub not_box : (A : Ty) (r : TypeRow) → ((x : ℕ) → r ≡ Row.Boxed x → ⊥) → alike (box A) (grow_type f r) ≡ false
  not_box A Row.Num h = refl
  not_box A Row.Never h = refl
  not_box A (Row.Fn x y) h = refl
  not_box A (Row.Boxed x) h = absurd (h x refl)
  not_box A (Row.At x) h = refl
  not_box A (Row.Both x y) h = refl

  pub not_at : (A : Ty) (r : TypeRow) → ((x : ℕ) → r ≡ Row.At x → ⊥) → alike (at A) (grow_type f r) ≡ false
  not_at A Row.Num h = refl
  not_at A Row.Never h = refl
  not_at A (Row.Fn x y) h = refl
  not_at A (Row.Boxed x) h = refl
  not_at A (Row.At x) h = absurd (h x refl)
  not_at A (Row.Both x y) h = refl

  pub not_both : (A B : Ty) (r : TypeRow) → ((x y : ℕ) → r ≡ Row.Both x y → ⊥) → alike (both A B) (grow_type f r) ≡ false
  not_both A B Row.Num h = refl
  not_both A B Row.Never h = refl
  not_both A B (Row.Fn x y) h = refl
  not_both A B (Row.Boxed x) h = refl
  not_both A B (Row.At x) h = refl
  not_both A B (Row.Both x y) h = absurd (h x y refl)
