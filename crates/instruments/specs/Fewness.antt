-- The sites of a bench are few, and none has many registers.
use Rattle.std.specs.Prelude.{ℕ, zero, suc, ◌≤◌, List, [], ◌∷◌, map, length}
use Rattle.std.proofs.Common.{zero-le, arith}
use Rattle.std.proofs.lemmas.List.{length-map, length-take-le}
use Rattle.instruments.specs.declared.bounded.Bounded.{Bounded}
use Rattle.instruments.specs.declared.bench.Bank.{Bank}
use Rattle.instruments.specs.declared.bench.Banks.{Banks}
use Rattle.instruments.specs.Items.{items_of}
use Rattle.instruments.specs.Registers.{site_row, Few}
use Rattle.instruments.specs.Benches.{fitted}

pub items_few : {T : Type 0} {n : ℕ} (b : Bounded T n) → length (items_of b) ≤ n
items_few b = omega (arith, length-take-le b.count b.slots (omega (arith, b.within.0, b.within.1)), b.within.0)

each : (of : Banks → Bank) (sites : List Banks) (s : ℕ) → length (site_row (map (λ b. fitted (of b)) sites) s) ≤ 32
each of [] s = zero-le
each of (b ∷ bs) zero = items_few (of b).registers
each of (b ∷ bs) (suc s) = each of bs s

pub few_banks : (of : Banks → Bank) (sites : Bounded Banks 16) → Few (map (λ b. fitted (of b)) (items_of sites))
few_banks of sites = (omega (arith, length-map (items_of sites) (λ b. fitted (of b)), items_few sites), each of (items_of sites))
