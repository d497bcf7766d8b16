-- What a bounded list holds.
use Rattle.std.specs.Prelude.{ℕ, List, take}
use Rattle.instruments.specs.declared.bounded.Bounded.{Bounded}

-- the items that stand, in order
abbrev pub items_of : {T : Type 0} {n : ℕ} → Bounded T n → List T
items_of b = take b.count b.slots
