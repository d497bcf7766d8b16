-- What the calls of a table of at most n rows answer and leave.
use Rattle.std.specs.Prelude.{◌≡◌, ℕ, ◌<◌, ◌≤◌, Bool, List, [], ◌∷◌, ◌++◌, length, Some, None, Option, nat_lt, nat_le, if◌then◌else◌}

-- so many rows fit
abbrev pub fits : ℕ → ℕ → Bool
fits n count = nat_le count n

-- the place of the next row, if it fits
abbrev pub next_place : {T : Type 0} → ℕ → List T → Option ℕ
next_place n xs = if nat_lt (length xs) n then Some (length xs) else None

-- the rows with one behind them, if it fits
abbrev pub with_row : {T : Type 0} → ℕ → List T → T → List T
with_row n xs x = if nat_lt (length xs) n then xs ++ x ∷ [] else xs

-- other rows in their place, if these fit
abbrev pub with_rows : {T : Type 0} → ℕ → List T → List T → List T
with_rows n xs ys = if nat_le (length ys) n then ys else xs

-- a row goes behind the others and takes their number as its place, or the table is full and stays
abbrev pub Pushed : {T : Type 0} → ℕ → List T → T → Option ℕ → List T → Type 0
Pushed n xs x None ys = (n ≤ length xs) × (ys ≡ xs)
Pushed n xs x (Some place) ys = (length xs < n) × (place ≡ length xs) × (ys ≡ xs ++ x ∷ [])
