-- What a table's rows stand for, and that a table which grows keeps it.
use Rattle.std.proofs.Common.{◌≡◌, ℕ, zero, suc, ◌+◌, ◌-◌, ◌<◌, ◌≤◌, List, [], ◌∷◌, ◌++◌, length, get_or, take, drop, sym, refl, ap, ◌∙◌, ⊎_elim, arith, length-append, length-drop}
use mathlib.Core.Option.{some}
use lib.ListN.{get_elem?}
use Rattle.std.proofs.lemmas.List.{take-append-drop, length-take-le, get_or-take, at_drop_more, drop-drop}
use Rattle.std.proofs.lemmas.Bool.{cases_lt}
use Rattle.syntax.specs.declared.program.Ty.{Ty as TypeRow}
use Rattle.syntax.specs.declared.program.Ty.TheVariants as Row
use Rattle.calculus.specs.Types.{Ty, num, fn, box, at, both}
use Rattle.calculus.specs.Program.{decoded, grow_type}
use Rattle.calculus.proofs.Decoding.{type_recurs}
use Rattle.checker.specs.TypeTable.{written_types, built_types, meaning, Below, Laid}

-- rows built in two parts
pub built_append : (ms : List Ty) (xs ys : List TypeRow) → built_types ms (xs ++ ys) ≡ built_types (built_types ms xs) ys
built_append ms [] ys = refl
built_append ms (x ∷ xs) ys = built_append (ms ++ grow_type (λ n. get_or ms n num) x ∷ []) xs ys

length_snoc : {A : Type 0} (xs : List A) (x : A) → length (xs ++ x ∷ []) ≡ length xs + 1
length_snoc xs x = length-append xs (x ∷ [])

getD_before : (ms : List Ty) (x : Ty) (n : ℕ) → n < length ms → get_or (ms ++ x ∷ []) n num ≡ get_or ms n num
getD_before [] x n h = absurd (omega arith)
getD_before (m ∷ ms) x zero h = refl
getD_before (m ∷ ms) x (suc n) h = getD_before ms x n (omega arith)

getD_end : (ms : List Ty) (x : Ty) → get_or (ms ++ x ∷ []) (length ms) num ≡ x
getD_end [] x = refl
getD_end (m ∷ ms) x = getD_end ms x

pub length_built : (ms : List Ty) (xs : List TypeRow) → length (built_types ms xs) ≡ length ms + length xs
length_built ms [] = omega arith
length_built ms (x ∷ xs) = length_built (ms ++ grow_type (λ n. get_or ms n num) x ∷ []) xs ∙ omega (arith, length_snoc ms (grow_type (λ n. get_or ms n num) x))

-- what stood there keeps its type
pub built_keeps : (ms : List Ty) (xs : List TypeRow) (n : ℕ) → n < length ms → get_or (built_types ms xs) n num ≡ get_or ms n num
built_keeps ms [] n h = refl
built_keeps ms (x ∷ xs) n h =
    let ns = ms ++ grow_type (λ n. get_or ms n num) x ∷ [] in
    built_keeps ns xs n (omega (arith, length_snoc ms (grow_type (λ n. get_or ms n num) x))) ∙ getD_before ms (grow_type (λ n. get_or ms n num) x) n h

-- a row says the same of two tables that agree on its parts
pub grow_below : (f g : ℕ → Ty) (n : ℕ) (r : TypeRow) → Below n r → ((c : ℕ) → c < n → f c ≡ g c) → grow_type f r ≡ grow_type g r
grow_below f g n Row.Num b h = refl
grow_below f g n Row.Never b h = refl
grow_below f g n (Row.Fn x y) b h = λ i. fn (h x b.0 i) (h y b.1 i)
grow_below f g n (Row.Boxed x) b h = λ i. box (h x b i)
grow_below f g n (Row.At x) b h = λ i. at (h x b i)
grow_below f g n (Row.Both x y) b h = λ i. both (h x b.0 i) (h y b.1 i)

pub getElem_getD : {A : Type 0} (xs : List A) (n : ℕ) (d : A) → n < length xs → get_elem? xs n ≡ some (get_or xs n d)
getElem_getD [] n d h = absurd (omega arith)
getElem_getD (x ∷ xs) zero d h = refl
getElem_getD (x ∷ xs) (suc n) d h = getElem_getD xs n d (omega arith)

length_decoded : (k : ℕ) (rows : List TypeRow) → length (decoded (λ k f r. grow_type f r) num k rows) ≡ length rows
length_decoded k [] = refl
length_decoded k (r ∷ rs) = ap suc (length_decoded (suc k) rs)

-- the rows from a place on begin with the row there
drop_row : (rows : List TypeRow) (n : ℕ) → n < length rows → drop n rows ≡ get_or rows n Row.Num ∷ drop (n + 1) rows
drop_row rows n h = at_drop_more (λ x. x) rows n Row.Num h

module _ (w : ℕ) (rows : List TypeRow) (some-rows : w ≤ length rows) where
  length_written : length (written_types (take w rows)) ≡ w
  length_written = length_decoded 0 (take w rows) ∙ length-take-le w rows some-rows

  -- there is a type for each row
  pub length_meant : length (built_types (written_types (take w rows)) (drop w rows)) ≡ length rows
  length_meant = length_built (written_types (take w rows)) (drop w rows) ∙ omega (arith, length_written, length-drop w rows)

  -- a written number stands for what it stands for in the text
  pub meaning_written : (n : ℕ) → n < w → meaning w rows n ≡ get_or (written_types (take w rows)) n num
  meaning_written n h = built_keeps (written_types (take w rows)) (drop w rows) n (omega (arith, length_written))

  -- what stands before row n
  before : ℕ → List Ty
  before n = built_types (written_types (take w rows)) (take (n - w) (drop w rows))

  length_before : (n : ℕ) → w ≤ n → n ≤ length rows → length (before n) ≡ n
  unfolding before
  length_before n h k =
      length_built (written_types (take w rows)) (take (n - w) (drop w rows))
      ∙ omega (arith, length_written, length-take-le (n - w) (drop w rows) (omega (arith, length-drop w rows)), length-drop w rows)

  split : (n : ℕ) → built_types (written_types (take w rows)) (drop w rows) ≡ built_types (before n) (drop (n - w) (drop w rows))
  unfolding before
  split n =
      ap (λ (l : List TypeRow). built_types (written_types (take w rows)) l) (sym (take-append-drop (n - w) (drop w rows)))
      ∙ built_append (written_types (take w rows)) (take (n - w) (drop w rows)) (drop (n - w) (drop w rows))

  meaning_before : (n c : ℕ) → w ≤ n → n ≤ length rows → c < n → meaning w rows c ≡ get_or (before n) c num
  meaning_before n c h k l = ap (λ (x : List Ty). get_or x c num) (split n) ∙ built_keeps (before n) (drop (n - w) (drop w rows)) c (omega (arith, length_before n h k))

  meaning-built : (n : ℕ) → w ≤ n → n < length rows → meaning w rows n ≡ grow_type (λ c. get_or (before n) c num) (get_or rows n Row.Num)
  meaning-built n h k =
      let x = grow_type (λ c. get_or (before n) c num) (get_or rows n Row.Num) in
      let e : w + (n - w) ≡ n = omega arith in
      let l : n < length (before n ++ x ∷ []) = omega (arith, length_snoc (before n) x, length_before n h (omega arith)) in
      ap (λ (y : List Ty). get_or y n num) (split n)
      ∙ ap (λ (rs : List TypeRow). get_or (built_types (before n) rs) n num) (drop-drop (n - w) w rows ∙ ap (λ m. drop m rows) e ∙ drop_row rows n k)
      ∙ built_keeps (before n ++ x ∷ []) (drop (n + 1) rows) n l
      ∙ ap (λ m. get_or (before n ++ x ∷ []) m num) (sym (length_before n h (omega arith))) ∙ getD_end (before n) x

module _ (w : ℕ) (rows : List TypeRow) (laid : Laid w rows) where
  -- a number stands for its row, over what the row's parts stand for
  pub meaning_at : (n : ℕ) (r : TypeRow) → n < length rows → get_or rows n Row.Num ≡ r → meaning w rows n ≡ grow_type (meaning w rows) r
  meaning_at n r h e =
      ⊎_elim
      (λ (l : n < w).
      let s = laid.some in
      let k : n < length (take w rows) = omega (arith, length-take-le w rows s) in
      let g : get_elem? (take w rows) n ≡ some r = getElem_getD (take w rows) n Row.Num k ∙ ap (λ (x : TypeRow). some x) (get_or-take w rows n Row.Num l ∙ e) in
      meaning_written w rows s n l ∙ type_recurs (take w rows) laid.ordered n r g
      ∙ grow_below (λ c. get_or (written_types (take w rows)) c num) (meaning w rows) w r (laid.written n r l e) (λ c m. sym (meaning_written w rows s c m)))
      (λ (l : w ≤ n).
      let s = laid.some in
      meaning-built w rows s n l h ∙ ap (λ (x : TypeRow). grow_type (λ c. get_or (before w rows s n) c num) x) e
      ∙ grow_below (λ c. get_or (before w rows s n) c num) (meaning w rows) n r (laid.built n r l h e) (λ c m. sym (meaning_before w rows s n c l (omega arith) m)))
      (cases_lt n w)
