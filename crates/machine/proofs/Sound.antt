-- What is sound of a state comes out of its truncation again, since it holds in one way; and parts that make a sound state.
use Rattle.std.proofs.Common.{◌≡◌, ℕ, ◌<◌, length, arith}
use mathlib.Core.Logic.{∥∥₁_elim}
use Rattle.calculus.specs.Machine
use Rattle.machine.specs.Meaning.{state_of}
use Rattle.machine.specs.declared.parts.Continuation.{Continuation}
use Rattle.machine.specs.declared.parts.Phase.{Phase}
use Rattle.machine.specs.declared.parts.Store.{Store}
use Rattle.machine.specs.Sound.{Each, CellIn, ContinuationIn, WorkIn, StoreIn, StateIn}
use Rattle.machine.specs.declared.parts.State.{State}
use Rattle.machine.proofs.Props.{state_prop}

pub sound : (s : State) → StateIn s.stations s.site s.continuation s.phase s.store
sound s = ∥∥₁_elim s.sound (state_prop s.stations s.site s.continuation s.phase s.store) (λ h. h)

pub continuation_sound : (s : State) → ContinuationIn (length s.store.frames.items) s.continuation
continuation_sound s = (sound s).work_in.1

-- there is a row of the site where work stands
pub site_sound : (s : State) → s.site < length s.store.rows
site_sound s = let a = (sound s).store_in.rows_are in let b = (sound s).site_in in let c = (sound s).stations_few in omega arith

pub store_sound : (s : State) → StoreIn s.store
store_sound s = (sound s).store_in

pub cells_sound : (s : State) → Each (λ i c. CellIn s.store.cells.items i c) s.store.cells.items
cells_sound s = (sound s).store_in.cells_in

-- other work over the same tables
pub moved : (s : State) (w : ℕ) (k : Continuation) (p : Phase) → w < s.stations → WorkIn s.store p k → StateIn s.stations w k p s.store
moved s w k p here work = record { store_in = (sound s).store_in; stations_few = (sound s).stations_few; site_in = here; work_in = work }

-- These parts make a sound state, which stands for that one.
abbrev pub Makes : ℕ → ℕ → Continuation → Phase → Store → Machine.State → Type 0
Makes n w k p t M = (h : StateIn n w k p t) × (state_of (record { stations = n; site = w; continuation = k; phase = p; store = t; sound = ∣ h ∣₁ }) ≡ M)
