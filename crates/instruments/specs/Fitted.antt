use Rattle.std.specs.Prelude.{ℕ, ◌<◌, ◌≤◌, List, length, slice_index_or}
use Rattle.instruments.specs.declared.sheet.Station.{Station}

-- no station has more than 32 gauges or 32 gates
abbrev pub Fitted : List Station → Type 0
Fitted xs = (k : ℕ) (d : Station) → k < length xs → ((slice_index_or xs k d).gauges ≤ 32) × ((slice_index_or xs k d).gates ≤ 32)
