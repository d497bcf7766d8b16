-- What the tables of a machine stand for: a state of the environment machine.
use Rattle.std.specs.Prelude.{List, [], map, length, get_or, take, slice_index_or}
use Rattle.calculus.specs.Machine
use Rattle.machine.specs.Grow.{grow}
use Rattle.machine.specs.declared.parts.Environment.{Environment}
use Rattle.machine.specs.declared.parts.Environment.TheVariants as Env
use Rattle.machine.specs.declared.parts.Value.{Value}
use Rattle.machine.specs.declared.parts.Value.TheVariants as Val
use Rattle.machine.specs.declared.parts.Bound.{Bound}
use Rattle.machine.specs.declared.parts.Bound.TheVariants as Bind
use Rattle.machine.specs.declared.parts.Cell.{Cell}
use Rattle.machine.specs.declared.parts.Cell.TheVariants as Holds
use Rattle.machine.specs.declared.parts.Continuation.{Continuation}
use Rattle.machine.specs.declared.parts.Continuation.TheVariants as Cont
use Rattle.machine.specs.declared.parts.Task.{Task}
use Rattle.machine.specs.declared.parts.Task.TheVariants as Does
use Rattle.machine.specs.declared.parts.Frame.{Frame}
use Rattle.machine.specs.declared.parts.Phase.{Phase}
use Rattle.machine.specs.declared.parts.Phase.TheVariants as Now
use Rattle.machine.specs.declared.parts.SiteRow.{SiteRow}
use Rattle.machine.specs.declared.parts.State.{State}

-- What a cell stands for: a chain of bindings, or a pair.
pub record Meaning : Type 0 where
  pub environment : Machine.Environment
  pub pair : Machine.Value

-- where there is no cell
abbrev pub blank : Meaning
blank = record { environment = Machine.empty; pair = Machine.number 0 }

abbrev pub environment_of : List Meaning → Environment → Machine.Environment
environment_of ms Env.Empty = Machine.empty
environment_of ms (Env.Cell i) = (get_or ms i blank).environment

abbrev pub value_of : List Meaning → Value → Machine.Value
value_of ms (Val.Number n) = Machine.number n
value_of ms (Val.Function p e) = Machine.function p (environment_of ms e)
value_of ms (Val.Code p e) = Machine.code p (environment_of ms e)
value_of ms (Val.Address s l) = Machine.address s l
value_of ms (Val.Pair i) = (get_or ms i blank).pair

-- a chain with one binding more
abbrev pub bound_of : List Meaning → Bound → Machine.Environment → Machine.Environment
bound_of ms (Bind.Value v) ρ = Machine.value (value_of ms v) ρ
bound_of ms (Bind.Label s l) ρ = Machine.label s l ρ
bound_of ms (Bind.World s) ρ = Machine.world s ρ
bound_of ms (Bind.Continuation s c) ρ = Machine.continuation s c ρ

abbrev pub cell_of : List Meaning → Cell → Meaning
cell_of ms (Holds.Binding b r) = record { environment = bound_of ms b (environment_of ms r); pair = Machine.number 0 }
cell_of ms (Holds.Pair a b) = record { environment = Machine.empty; pair = Machine.pair (value_of ms a) (value_of ms b) }

-- What the cells stand for, one by one.
abbrev pub meanings : List Cell → List Meaning
meanings cs = grow cell_of [] cs

abbrev pub continuation_of : List Machine.Continuation → Continuation → Machine.Continuation
continuation_of ks Cont.Finish = Machine.finish
continuation_of ks Cont.Abort = Machine.abort
continuation_of ks (Cont.Return s c) = Machine.return s c
continuation_of ks (Cont.Frame i) = slice_index_or ks i Machine.finish

abbrev pub task_of : List Meaning → Task → Machine.Frame
task_of ms (Does.Apply a e) = Machine.to_apply a (environment_of ms e)
task_of ms (Does.Applied f) = Machine.applied (value_of ms f)
task_of ms Does.Unbox = Machine.unboxing
task_of ms Does.Publish = Machine.publishing
task_of ms (Does.Open b e) = Machine.opening b (environment_of ms e)
task_of ms (Does.Pair b e) = Machine.to_pair b (environment_of ms e)
task_of ms (Does.Paired a) = Machine.paired (value_of ms a)
task_of ms Does.First = Machine.first
task_of ms Does.Second = Machine.second
task_of ms (Does.Compare b x y e) = Machine.to_compare b x y (environment_of ms e)
task_of ms (Does.Compared a x y e) = Machine.compared (value_of ms a) x y (environment_of ms e)
task_of ms (Does.Set n) = Machine.setting n

abbrev pub frame_of : List Meaning → List Machine.Continuation → Frame → Machine.Continuation
frame_of ms ks f = Machine.push (task_of ms f.task) (continuation_of ks f.next)

-- What the frames stand for: each is the continuation that it is the top of.
abbrev pub chains : List Meaning → List Frame → List Machine.Continuation
chains ms fs = grow (frame_of ms) [] fs

abbrev pub phase_of : List Meaning → Phase → Machine.Phase
phase_of ms (Now.Eval p e) = Machine.eval p (environment_of ms e)
phase_of ms (Now.Back v) = Machine.back (value_of ms v)

abbrev pub published_of : List Meaning → SiteRow → List Machine.Value
published_of ms r = map (value_of ms) r.published.items

abbrev pub kept_of : List Machine.Continuation → SiteRow → List Machine.Continuation
kept_of ks r = map (continuation_of ks) r.kept.items

abbrev pub cells_of : State → List Meaning
cells_of s = meanings s.store.cells.items

abbrev pub chains_of : State → List Machine.Continuation
chains_of s = chains (cells_of s) s.store.frames.items

-- The tables of the sites that there are: the first so many of the 16 rows.
abbrev pub sites_of : State → Machine.Sites
sites_of s = record {
  published = take s.stations (map (published_of (cells_of s)) s.store.rows);
  kept = take s.stations (map (kept_of (chains_of s)) s.store.rows);
}

abbrev pub places_of : State → Machine.Places
places_of s = record { frames = length s.store.frames.items; bindings = s.store.bindings; pairs = s.store.pairs }

-- The state of the environment machine that a machine's state stands for.
abbrev pub state_of : State → Machine.State
state_of s = Machine.state (sites_of s) s.site (continuation_of (chains_of s) s.continuation) (phase_of (cells_of s) s.phase) (places_of s)
