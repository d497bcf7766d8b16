use Rattle.std.specs.Prelude.{◌≡◌, ℕ, ◌+◌, ◌*◌, ◌/◌, ◌%◌, ◌^◌, ◌<◌, ◌≤◌, cond, List, map, length, Some, None, Option, ◌==◌, ◌≢◌, slice_index, slice_set}
use Rattle.std.specs.List.{range_with_len}
use Rattle.instruments.specs.Registers.{Shown}

-- register n of site s, whose answer bits begin at byte `bits` of the site and whose numbers begin at byte `numbers`
abbrev pub register : List ℕ → ℕ → ℕ → ℕ → ℕ → Option ℕ
register bs s bits numbers n = cond ((slice_index bs (140 * s + bits + n / 8) / 2 ^ (n % 8)) % 2 == 1) (Some (256 * slice_index bs (140 * s + numbers + 2 * n) + slice_index bs (140 * s + numbers + 2 * n + 1))) None

-- the registers of site s, whose count stands at byte `count` of the site
abbrev pub site_shown : List ℕ → ℕ → ℕ → ℕ → ℕ → List (Option ℕ)
site_shown bs s count bits numbers = map (register bs s bits numbers) (range_with_len 0 (slice_index bs (140 * s + count)))

abbrev pub shown : List ℕ → ℕ → ℕ → ℕ → Shown
shown bs count bits numbers = map (λ s. site_shown bs s count bits numbers) (range_with_len 0 (length bs / 140))

abbrev pub image_gauges : List ℕ → Shown
image_gauges bs = shown bs 0 4 12

abbrev pub image_gates : List ℕ → Shown
image_gates bs = shown bs 1 8 76

-- the two bytes of register n of site s, whose numbers begin at byte `numbers`, spell v: the high byte first
abbrev pub Spelled : List ℕ → ℕ → ℕ → ℕ → ℕ → Type 0
Spelled bs s numbers n v = (slice_index bs (140 * s + numbers + 2 * n) ≡ v / 256) × (slice_index bs (140 * s + numbers + 2 * n + 1) ≡ v % 256)

-- two images have the same bytes but for the two of gate n of site s
abbrev pub Foreign : List ℕ → List ℕ → ℕ → ℕ → Type 0
Foreign bs cs s n = (p : ℕ) → (p ≢ 140 * s + 76 + 2 * n) → (p ≢ 140 * s + 76 + 2 * n + 1) → slice_index cs p ≡ slice_index bs p

-- the image with v at gate n of site s
abbrev pub put_gate : List ℕ → ℕ → ℕ → ℕ → List ℕ
put_gate bs s n v = slice_set (slice_set bs (140 * s + 76 + 2 * n) (v / 256)) (140 * s + 76 + 2 * n + 1) (v % 256)

-- 1 to 16 sites, whose counts are at most 32
abbrev pub Whole : List ℕ → Type 0
Whole bs = (length bs ≡ 140 * (length bs / 140)) × (1 ≤ length bs / 140) × (length bs / 140 ≤ 16)

abbrev pub Counts : List ℕ → ℕ → Type 0
Counts bs count = (s : ℕ) → s < length bs / 140 → slice_index bs (140 * s + count) ≤ 32
