-- Lemmas: rows of registers, as they are asked and set.
use Rattle.std.specs.Prelude.{◌≡◌, ℕ, ◌<◌, ◌≤◌, List, [], length, None, Err, Option, slice_index_or}
use Rattle.std.proofs.Common.{lt-ltb, le-ltb}
use Rattle.std.proofs.lemmas.List.{set-get_or}
use Rattle.lines.specs.declared.refusal.RegisterFault.{RegisterFault}
use Rattle.lines.specs.declared.refusal.RegisterFault.TheVariants.{NotFitted}
use Rattle.instruments.specs.Registers.{Shown, heard, row_asked, asked, set_after}

pub row_fitted : (xs : List (Option ℕ)) (s n : ℕ) (o : Option ℕ) → n < length xs → slice_index_or xs n None ≡ o → row_asked xs s n ≡ heard s n o
row_fitted xs s n o h e = rw (lt-ltb n (length xs) h, e)

pub row_unfitted : (xs : List (Option ℕ)) (s n : ℕ) → length xs ≤ n → row_asked xs s n ≡ Err (NotFitted s n)
row_unfitted xs s n h = rw (le-ltb n (length xs) h)

-- a set that is refused changes nothing
pub set_after_err : (rows : Shown) (s n v : ℕ) (e : RegisterFault) → asked rows s n ≡ Err e → set_after rows s n v ≡ rows
set_after_err rows s n v e q = rw q (set-get_or rows s [])
