-- What is found under a count in a chain of bindings.
use Rattle.std.specs.Prelude.{ℕ, zero, suc, Bool, true, false, cond, List, length, Some, None, Option as Maybe}
use Rattle.std.proofs.Math.Option.{Option, some, none as nothing}
use Rattle.calculus.specs.Machine
use Rattle.machine.specs.Meaning.{Meaning, value_of}
use Rattle.machine.specs.Sound.{BoundIn}
use Rattle.machine.specs.declared.parts.Kind.{Kind}
use Rattle.machine.specs.declared.parts.Kind.TheVariants as Of
use Rattle.machine.specs.declared.parts.Bound.{Bound}
use Rattle.machine.specs.declared.parts.Bound.TheVariants as Bind
use Rattle.machine.specs.declared.parts.Cell.{Cell}

-- Counts of values count values and labels; those of worlds and of continuations count these alone.
abbrev pub counted : Kind → Bound → Bool
counted Of.Value (Bind.Value v) = true
counted Of.Value (Bind.Label s l) = true
counted Of.Value (Bind.World s) = false
counted Of.Value (Bind.Continuation s c) = false
counted Of.World (Bind.Value v) = false
counted Of.World (Bind.Label s l) = false
counted Of.World (Bind.World s) = true
counted Of.World (Bind.Continuation s c) = false
counted Of.Continuation (Bind.Value v) = false
counted Of.Continuation (Bind.Label s l) = false
counted Of.Continuation (Bind.World s) = false
counted Of.Continuation (Bind.Continuation s c) = true

-- one less, if there is one
abbrev pub less_one : ℕ → Option ℕ
less_one zero = nothing
less_one (suc n) = some n

-- The count that is left behind a binding; nothing where it is the one.
abbrev pub passing : Kind → Bound → ℕ → Option ℕ
passing k b n = cond (counted k b) (less_one n) (some n)

-- What the environment machine finds under a count of a kind.
pub data Sought : Type 0 where
  a_value : Machine.Found → Sought
  a_world : Option ℕ → Sought
  a_continuation : Option (ℕ × ℕ) → Sought

abbrev pub sought : Kind → Machine.Environment → ℕ → Sought
sought Of.Value ρ i = a_value (Machine.value_there ρ i)
sought Of.World ρ i = a_world (Machine.site_at ρ i)
sought Of.Continuation ρ i = a_continuation (Machine.continuation_there ρ i)

-- What a binding that the code found stands for, of each kind.
abbrev pub found_of : List Meaning → Maybe Bound → Machine.Found
found_of ms None = Machine.unbound
found_of ms (Some (Bind.Value v)) = Machine.a_value (value_of ms v)
found_of ms (Some (Bind.Label s l)) = Machine.a_label s l
found_of ms (Some (Bind.World s)) = Machine.unbound
found_of ms (Some (Bind.Continuation s c)) = Machine.unbound

abbrev pub world_of : Maybe Bound → Option ℕ
world_of None = nothing
world_of (Some (Bind.Value v)) = nothing
world_of (Some (Bind.Label s l)) = nothing
world_of (Some (Bind.World s)) = some s
world_of (Some (Bind.Continuation s c)) = nothing

abbrev pub kept_at : Maybe Bound → Option (ℕ × ℕ)
kept_at None = nothing
kept_at (Some (Bind.Value v)) = nothing
kept_at (Some (Bind.Label s l)) = nothing
kept_at (Some (Bind.World s)) = nothing
kept_at (Some (Bind.Continuation s c)) = some (s, c)

abbrev pub as_found : Kind → List Meaning → Maybe Bound → Sought
as_found Of.Value ms o = a_value (found_of ms o)
as_found Of.World ms o = a_world (world_of o)
as_found Of.Continuation ms o = a_continuation (kept_at o)

-- what is found names cells that there are
abbrev pub Within : List Cell → Maybe Bound → Type 0
Within cs None = Unit {0}
Within cs (Some b) = BoundIn cs (length cs) b
