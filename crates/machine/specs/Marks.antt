-- Marks of registers, in bytes.
use Rattle.std.specs.Prelude.{ℕ, zero, suc, ◌/◌, ◌%◌, Bool, List, [], ◌∷◌, ◌++◌, ◌==◌}
use Rattle.calculus.specs.Marks.{Marks}

-- the lowest so many bits of a number, the lowest first
abbrev pub low_bits : ℕ → ℕ → List Bool
low_bits zero n = []
low_bits (suc k) n = (n % 2 == 1) ∷ low_bits k (n / 2)

-- The marks that bytes hold: mark m is bit m % 8 of byte m / 8.
abbrev pub bits_of : List ℕ → Marks
bits_of [] = []
bits_of (b ∷ bs) = low_bits 8 b ++ bits_of bs
