-- What an image shows is within the limits.
use Rattle.std.proofs.Common.{⊎_elim, arith}
use Rattle.std.specs.Prelude.{ℕ, ◌+◌, ◌*◌, ◌/◌, ◌<◌, ◌≤◌, List, length, Option, slice_index}
use Rattle.std.proofs.lemmas.List.FromFn.{length-map-range_with_len}
use Rattle.std.proofs.lemmas.Bool.{cases_lt}
use Rattle.instruments.specs.Registers.{Few}
use Rattle.instruments.specs.Layout.{register, site_shown, shown, Whole, Counts}
use Rattle.instruments.specs.Indexed.{counted_row, counted_none}

pub shown_few : (bs : List ℕ) (count bits numbers : ℕ) → Whole bs → Counts bs count → Few (shown bs count bits numbers)
shown_few bs count bits numbers w few =
    let row : ℕ → List (Option ℕ) = λ s. site_shown bs s count bits numbers in
    let m = length bs / 140 in (
      omega (arith, length-map-range_with_len row 0 m, w.2),
      λ s. ⊎_elim
          (λ (h : s < m). rw (counted_row row m s h, length-map-range_with_len (register bs s bits numbers) 0 (slice_index bs (140 * s + count))) (few s h))
          (λ (h : m ≤ s). rw (counted_none row m s h) (omega arith))
          (cases_lt s m),
    )
