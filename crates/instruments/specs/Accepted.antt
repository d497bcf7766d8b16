use Rattle.std.specs.Prelude.{ℕ, zero, suc, ◌+◌, ◌*◌, ◌/◌, ◌%◌, cond, ◌&&◌, List, length, Some, None, Ok, Err, Option, Result, ◌==◌, nat_le, nat_lt, slice_index}
use Rattle.lines.specs.declared.refusal.ImageFault.{ImageFault}
use Rattle.lines.specs.declared.refusal.ImageFault.TheVariants.{Length, Byte}

-- the first byte of site s that breaks a rule: a count above 32, or a zero byte that is set
abbrev pub site_bad : List ℕ → ℕ → Option ℕ
site_bad bs s = cond (nat_lt 32 (slice_index bs (140 * s + 0))) (Some (140 * s + 0)) (cond (nat_lt 32 (slice_index bs (140 * s + 1))) (Some (140 * s + 1)) (cond (slice_index bs (140 * s + 2) == 0) (cond (slice_index bs (140 * s + 3) == 0) None (Some (140 * s + 3))) (Some (140 * s + 2))))

abbrev pub or_else : Option ℕ → Option ℕ → Option ℕ
or_else None o = o
or_else (Some p) o = Some p

-- the first such byte of k sites from site s on
abbrev pub bad_from : List ℕ → ℕ → ℕ → Option ℕ
bad_from bs s zero = None
bad_from bs s (suc k) = or_else (site_bad bs s) (bad_from bs (s + 1) k)

abbrev pub checked : List ℕ → Option ℕ → Result Unit ImageFault
checked bs None = Ok tt
checked bs (Some p) = Err (Byte p)

-- what making an image of these bytes answers: the image's bytes, or why there is none
abbrev pub accepted : List ℕ → Result Unit ImageFault
accepted bs = cond (nat_le 140 (length bs) && (nat_le (length bs) 2240 && length bs % 140 == 0)) (checked bs (bad_from bs 0 (length bs / 140))) (Err (Length (length bs)))
