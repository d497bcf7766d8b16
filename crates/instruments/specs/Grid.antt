-- Lemmas: what a recorded sheet shows.
use Rattle.std.specs.Prelude.{◌≡◌, ℕ, ◌<◌, ◌≤◌, List, [], map, length, None, Err, Option}
use Rattle.std.proofs.Common.{arith, ⊎_elim}
use Rattle.std.specs.List.{range_with_len}
use Rattle.std.proofs.lemmas.List.FromFn.{length-map-range_with_len, get_or-map-range_with_len}
use Rattle.std.proofs.lemmas.List.{get_or_past}
use Rattle.lines.specs.declared.refusal.RegisterFault.TheVariants.{NotFitted}
use Rattle.instruments.specs.Registers.{Few, site_row, heard, asked}
use Rattle.std.proofs.lemmas.Bool.{cases_lt}
use Rattle.instruments.specs.Rows.{row_fitted, row_unfitted}
use Rattle.instruments.specs.declared.record.Row.{Row}
use Rattle.instruments.specs.Records.{first, grid, recorded}

grid_row : (f : ℕ → ℕ → Option ℕ) (m n s : ℕ) → s < m → site_row (grid f m n) s ≡ map (f s) (range_with_len 0 n)
grid_row f m n s h = get_or-map-range_with_len (λ s. map (f s) (range_with_len 0 n)) 0 m s s [] h (omega arith)

grid_past : (f : ℕ → ℕ → Option ℕ) (m n s : ℕ) → m ≤ s → site_row (grid f m n) s ≡ []
grid_past f m n s h = get_or_past (grid f m n) s [] (rw (length-map-range_with_len (λ s. map (f s) (range_with_len 0 n)) 0 m) h)

grid_asked : (f : ℕ → ℕ → Option ℕ) (m n s g : ℕ) → s < m → g < n → asked (grid f m n) s g ≡ heard s g (f s g)
grid_asked f m n s g h k = row_fitted (site_row (grid f m n) s) s g (f s g) (rw (grid_row f m n s h, length-map-range_with_len (f s) 0 n) k) (rw (grid_row f m n s h) (get_or-map-range_with_len (f s) 0 n g g None k (omega arith)))

pub recorded_length : (rows : List Row) → length (recorded rows) ≡ 16
unfolding recorded
recorded_length rows = length-map-range_with_len (λ s. map (first rows s) (range_with_len 0 32)) 0 16

pub recorded_width : (rows : List Row) (s : ℕ) → s < 16 → length (site_row (recorded rows) s) ≡ 32
unfolding recorded
recorded_width rows s h = rw (grid_row (first rows) 16 32 s h) (length-map-range_with_len (first rows s) 0 32)

pub recorded_past : (rows : List Row) (s : ℕ) → 16 ≤ s → length (site_row (recorded rows) s) ≡ 0
unfolding recorded
recorded_past rows s h = rw (grid_past (first rows) 16 32 s h)

pub recorded_asked : (rows : List Row) (s g : ℕ) → s < 16 → g < 32 → asked (recorded rows) s g ≡ heard s g (first rows s g)
unfolding recorded
recorded_asked rows s g h k = grid_asked (first rows) 16 32 s g h k

pub recorded_wide : (rows : List Row) (s g : ℕ) → s < 16 → 32 ≤ g → asked (recorded rows) s g ≡ Err (NotFitted s g)
recorded_wide rows s g h k = row_unfitted (site_row (recorded rows) s) s g (omega (arith, recorded_width rows s h))

pub recorded_none : (rows : List Row) (s g : ℕ) → 16 ≤ s → asked (recorded rows) s g ≡ Err (NotFitted s g)
recorded_none rows s g h = row_unfitted (site_row (recorded rows) s) s g (omega (arith, recorded_past rows s h))

pub recorded_few : (rows : List Row) → Few (recorded rows)
recorded_few rows = (
  omega (arith, recorded_length rows),
  λ s. ⊎_elim (λ (a : s < 16). omega (arith, recorded_width rows s a)) (λ (a : 16 ≤ s). omega (arith, recorded_past rows s a)) (cases_lt s 16),
)
