use Rattle.std.proofs.Common.{◌≡◌, length}
use Rattle.machine.specs.Meaning.{meanings, environment_of}
use Rattle.machine.specs.Lookups.{sought}
use Rattle.machine.specs.Sound.{EnvironmentIn}
use Rattle.machine.proofs.Walks.{place}
use Rattle.machine.proofs.parts.State.bound_at.Given as goal

abbrev pub invariant-loop-at : goal.invariant-loop-at
invariant-loop-at l =
    EnvironmentIn (length l.self.store.cells.items) l.at
    × (sought l.kind (environment_of (meanings l.self.store.cells.items) l.at) l.left ≡ sought l.kind (environment_of (meanings l.self.store.cells.items) l.initial.at) l.initial.left)

abbrev pub decreases-loop-at : goal.decreases-loop-at
decreases-loop-at l = place l.at
