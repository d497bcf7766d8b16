use Rattle.std.specs.Prelude.{ℕ, Bool, cond, List, [], ◌∷◌, ◌++◌, map, length, Some, None, Option, ◌==◌, nat_lt}
use Rattle.std.specs.List.{range_with_len}
use Rattle.instruments.specs.Registers.{Shown}
use Rattle.instruments.specs.declared.record.Row.{Row}

-- the number of the first row of gauge g of site s
abbrev pub first : List Row → ℕ → ℕ → Option ℕ
first [] s g = None
first (r ∷ rs) s g = cond (r.site == s) (cond (r.gauge == g) (Some r.number) (first rs s g)) (first rs s g)

-- the readings f of m sites with n gauges each
abbrev pub grid : (ℕ → ℕ → Option ℕ) → ℕ → ℕ → Shown
grid f m n = map (λ s. map (f s) (range_with_len 0 n)) (range_with_len 0 m)

-- what a recorded sheet shows
unfoldable pub recorded : List Row → Shown
recorded rows = grid (first rows) 16 32

-- a row is added where fewer than 4,096 stand
abbrev pub noted : List Row → Bool
noted rows = nat_lt (length rows) 4096

abbrev pub noted_after : List Row → Row → List Row
noted_after rows r = cond (noted rows) (rows ++ r ∷ []) rows
