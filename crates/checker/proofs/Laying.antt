-- The test of a table of types says what the table is.
use Rattle.std.proofs.Common.{◌≡◌, ℕ, suc, ◌+◌, ◌<◌, ◌≤◌, Bool, true, cond, ◌&&◌, leb, List, [], ◌∷◌, length, get_or, take, sym, refl, ap, ◌∙◌, subst, ⊎_elim, arith, ltb-true, le-ltb, lt-ltb, le-leb, leb-true}
use Rattle.std.proofs.lemmas.Bool.{cases_lt}
use Rattle.std.proofs.lemmas.List.{get_or-take, length-take-le}
use Rattle.syntax.specs.Sound.{TySound}
use Rattle.syntax.specs.Tests.{type_test, each_row}
use Rattle.syntax.proofs.Tests.{both, and, type_says, type_tests, each_says, each_tests}
use Rattle.syntax.specs.declared.program.Ty.{Ty as TypeRow}
use Rattle.syntax.specs.declared.program.Ty.TheVariants as Row
use Rattle.calculus.specs.Program.{AboveType, Sorted}
use Rattle.checker.specs.declared.types.TypeRows.{TypeRows}
use Rattle.checker.specs.TypeTable.{Below, Given, Laid}
use Rattle.checker.specs.Typed.{given_test, row_test, table_test, laid_test}
use Rattle.checker.proofs.Compare.{sorted_at}

given_says : (w : ℕ) (r : TypeRow) → given_test w r ≡ true → Given w r
given_says w Row.Num e = tt
given_says w Row.Never e = tt
given_says w (Row.Fn a b) e = ltb-true a w e
given_says w (Row.Boxed a) e = tt
given_says w (Row.At a) e = tt
given_says w (Row.Both a b) e = tt

given_tests : (w : ℕ) (r : TypeRow) → Given w r → given_test w r ≡ true
given_tests w Row.Num h = refl
given_tests w Row.Never h = refl
given_tests w (Row.Fn a b) h = lt-ltb a w h
given_tests w (Row.Boxed a) h = refl
given_tests w (Row.At a) h = refl
given_tests w (Row.Both a b) h = refl

pub sound_below : (low high : ℕ) (r : TypeRow) → TySound low high r → Below high r
sound_below low high Row.Num s = tt
sound_below low high Row.Never s = tt
sound_below low high (Row.Fn a b) s = (s.0.1, s.1.1)
sound_below low high (Row.Boxed a) s = s.1
sound_below low high (Row.At a) s = s.1
sound_below low high (Row.Both a b) s = (s.0.1, s.1.1)

below_sound : (high : ℕ) (r : TypeRow) → Below high r → TySound 0 high r
below_sound high Row.Num h = tt
below_sound high Row.Never h = tt
below_sound high (Row.Fn a b) h = ((omega arith, h.0), (omega arith, h.1))
below_sound high (Row.Boxed a) h = (omega arith, h)
below_sound high (Row.At a) h = (omega arith, h)
below_sound high (Row.Both a b) h = ((omega arith, h.0), (omega arith, h.1))

both_sound : (n high : ℕ) (r : TypeRow) → AboveType n r → Below high r → TySound (n + 1) high r
both_sound n high Row.Num q h = tt
both_sound n high Row.Never q h = tt
both_sound n high (Row.Fn a b) q h = ((omega (arith, q.0), h.0), (omega (arith, q.1), h.1))
both_sound n high (Row.Boxed a) q h = (omega arith, h)
both_sound n high (Row.At a) q h = (omega arith, h)
both_sound n high (Row.Both a b) q h = ((omega (arith, q.0), h.0), (omega (arith, q.1), h.1))

pub sound_above : (n high : ℕ) (r : TypeRow) → TySound (n + 1) high r → AboveType n r
sound_above n high Row.Num s = tt
sound_above n high Row.Never s = tt
sound_above n high (Row.Fn a b) s = (omega (arith, s.0.0), omega (arith, s.1.0))
sound_above n high (Row.Boxed a) s = omega (arith, s.0)
sound_above n high (Row.At a) s = omega (arith, s.0)
sound_above n high (Row.Both a b) s = (omega (arith, s.0.0), omega (arith, s.1.0))

pub below_given : (n : ℕ) (r : TypeRow) → Below n r → Given n r
below_given n Row.Num h = tt
below_given n Row.Never h = tt
below_given n (Row.Fn a b) h = h.0
below_given n (Row.Boxed a) h = tt
below_given n (Row.At a) h = tt
below_given n (Row.Both a b) h = tt

pub sorted_from : (k : ℕ) (rows : List TypeRow) → ((n : ℕ) → n < length rows → AboveType (k + n) (get_or rows n Row.Num)) → Sorted AboveType k rows
sorted_from k [] h = tt
sorted_from k (r ∷ rs) h = (
  subst (λ m. AboveType m r) (let e : k + 0 ≡ k = omega arith in e) (h 0 (omega arith)),
  sorted_from (suc k) rs (λ n l. subst (λ m. AboveType m (get_or rs n Row.Num)) (let e : k + suc n ≡ suc k + n = omega arith in e) (h (suc n) (omega arith))),
)

module _ (w : ℕ) (rows : List TypeRow) where
  row_tests : Laid w rows → (n : ℕ) → n < length rows → row_test w n (get_or rows n Row.Num) ≡ true
  row_tests l n h =
      let r = get_or rows n Row.Num in
      ⊎_elim
      (λ (q : n < w).
      let a : AboveType n r = subst (λ (x : TypeRow). AboveType n x) (get_or-take w rows n Row.Num q) (sorted_at AboveType 0 (take w rows) n n Row.Num l.ordered (omega (arith, length-take-le w rows l.some)) (omega arith)) in
      ap (λ (b : Bool). cond b (type_test (n + 1) w r) (type_test 0 n r && given_test w r)) (lt-ltb n w q) ∙ type_tests (n + 1) w r (both_sound n w r a (l.written n r q refl)))
      (λ (q : w ≤ n).
      ap (λ (b : Bool). cond b (type_test (n + 1) w r) (type_test 0 n r && given_test w r)) (le-ltb n w q) ∙ and (type_tests 0 n r (below_sound n r (l.built n r q h refl))) (given_tests w r (l.given n r h refl)))
      (cases_lt n w)

  pub table_tests : Laid w rows → table_test w rows ≡ true
  table_tests l =
      and (le-leb w (length rows) l.some)
      (each_tests (row_test w) 0 rows Row.Num (λ n q. ap (λ k. row_test w k (get_or rows n Row.Num)) (let e : 0 + n ≡ n = omega arith in e) ∙ row_tests l n q))

  module _ (e : table_test w rows ≡ true) where
    some : w ≤ length rows
    some = leb-true w (length rows) (both (leb w (length rows)) (each_row (row_test w) 0 rows) e).0

    row_at : (n : ℕ) → n < length rows → row_test w n (get_or rows n Row.Num) ≡ true
    row_at n h = ap (λ k. row_test w k (get_or rows n Row.Num)) (let z : n ≡ 0 + n = omega arith in z) ∙ each_says (row_test w) 0 rows Row.Num (both (leb w (length rows)) (each_row (row_test w) 0 rows) e).1 n h

    written_row : (n : ℕ) → n < length rows → n < w → TySound (n + 1) w (get_or rows n Row.Num)
    written_row n h q =
        let r = get_or rows n Row.Num in
        type_says (n + 1) w r (sym (ap (λ (b : Bool). cond b (type_test (n + 1) w r) (type_test 0 n r && given_test w r)) (lt-ltb n w q)) ∙ row_at n h)

    built_row : (n : ℕ) → n < length rows → w ≤ n → TySound 0 n (get_or rows n Row.Num) × Given w (get_or rows n Row.Num)
    built_row n h q =
        let r = get_or rows n Row.Num in
        let p = both (type_test 0 n r) (given_test w r) (sym (ap (λ (b : Bool). cond b (type_test (n + 1) w r) (type_test 0 n r && given_test w r)) (le-ltb n w q)) ∙ row_at n h) in
        (type_says 0 n r p.0, given_says w r p.1)

    pub table_says : Laid w rows
    table_says =
        record {
          some = some;
          ordered = sorted_from 0 (take w rows) (λ n h.
              let q : n < w = omega (arith, length-take-le w rows some) in
              subst (λ k. AboveType k (get_or (take w rows) n Row.Num)) (let z : n ≡ 0 + n = omega arith in z)
              (subst (λ (x : TypeRow). AboveType n x) (sym (get_or-take w rows n Row.Num q)) (sound_above n w (get_or rows n Row.Num) (written_row n (omega (arith, some)) q))));
          written = λ n r h q. subst (Below w) q (sound_below (n + 1) w (get_or rows n Row.Num) (written_row n (omega (arith, some)) h));
          built = λ n r k h q. subst (Below n) q (sound_below 0 n (get_or rows n Row.Num) (built_row n h k).0);
          given = λ n r h q. subst (Given w) q (⊎_elim
              (λ (l : n < w). below_given w (get_or rows n Row.Num) (sound_below (n + 1) w (get_or rows n Row.Num) (written_row n h l)))
              (λ (l : w ≤ n). (built_row n h l).1)
              (cases_lt n w));
        }

-- with a number of the table
pub laid_tests : (w : ℕ) (rows : List TypeRow) (m : ℕ) → Laid w rows → m < length rows → laid_test w rows m ≡ true
laid_tests w rows m l h = and (table_tests w rows l) (lt-ltb m (length rows) h)

-- a view of a table is in order
pub laid_of : (t : TypeRows) → Laid t.written t.rows.now
laid_of t = table_says t.written t.rows.now t.laid
