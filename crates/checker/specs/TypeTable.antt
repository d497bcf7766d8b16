-- A table of types. Its first rows are written in a text, and name parts with larger numbers; the rows behind them were built, and
-- name parts that stand before them. A built function type has a written type as its parameter.
use Rattle.std.specs.Prelude.{◌≡◌, ℕ, ◌<◌, ◌≤◌, List, [], ◌∷◌, ◌++◌, length, get_or, take, drop, slice_index_or}
use Rattle.syntax.specs.declared.program.Ty.{Ty as TypeRow}
use Rattle.syntax.specs.declared.program.Ty.TheVariants as Row
use Rattle.calculus.specs.Types.{Ty, num}
use Rattle.calculus.specs.Program.{decoded, grow_type, AboveType, Sorted}

-- what written rows stand for
abbrev pub written_types : List TypeRow → List Ty
written_types rows = decoded (λ k f r. grow_type f r) num 0 rows

-- what rows stand for that are built one by one behind others
abbrev pub built_types : List Ty → List TypeRow → List Ty
built_types ms [] = ms
built_types ms (r ∷ rs) = built_types (ms ++ grow_type (λ n. get_or ms n num) r ∷ []) rs

-- the type that a number stands for, where the first w rows are written
abbrev pub meaning : ℕ → List TypeRow → ℕ → Ty
meaning w rows n = slice_index_or (built_types (written_types (take w rows)) (drop w rows)) n num

-- the parts of a row are below a number
abbrev pub Below : ℕ → TypeRow → Type 0
Below n Row.Num = Unit {0}
Below n Row.Never = Unit {0}
Below n (Row.Fn a b) = (a < n) × (b < n)
Below n (Row.Boxed a) = a < n
Below n (Row.At a) = a < n
Below n (Row.Both a b) = (a < n) × (b < n)

-- the parameter of a function type is written
abbrev pub Given : ℕ → TypeRow → Type 0
Given w Row.Num = Unit {0}
Given w Row.Never = Unit {0}
Given w (Row.Fn a b) = a < w
Given w (Row.Boxed a) = Unit {0}
Given w (Row.At a) = Unit {0}
Given w (Row.Both a b) = Unit {0}

-- a table that the checker builds on
pub record Laid (w : ℕ) (rows : List TypeRow) : Type 0 where
  pub some : w ≤ length rows
  pub ordered : Sorted AboveType 0 (take w rows)
  pub written : (n : ℕ) (r : TypeRow) → n < w → slice_index_or rows n Row.Num ≡ r → Below w r
  pub built : (n : ℕ) (r : TypeRow) → w ≤ n → n < length rows → slice_index_or rows n Row.Num ≡ r → Below n r
  pub given : (n : ℕ) (r : TypeRow) → n < length rows → slice_index_or rows n Row.Num ≡ r → Given w r
