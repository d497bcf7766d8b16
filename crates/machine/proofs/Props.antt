-- What holds of a machine's tables holds in one way.
use Rattle.std.proofs.Common.{ℕ, List, length}
use mathlib.Core.Bool.{Bool-set}
use mathlib.Core.HLevel.{Unit-prop, Π_prop, ×_prop}
use mathlib.Core.Logic.{∥∥₁_elim}
use native.Mathlib.Bridge.{le_prop}
use native.Mathlib.Nat.{ℕ_set}
use Rattle.machine.specs.Sound.{EnvironmentIn, ValueIn, BoundIn, CellIn, ContinuationIn, TaskIn, FrameIn, PhaseIn, Each, RowIn, StoreIn, StateIn}
use Rattle.machine.specs.declared.parts.Environment.{Environment}
use Rattle.machine.specs.declared.parts.Environment.TheVariants as Env
use Rattle.machine.specs.declared.parts.Value.{Value}
use Rattle.machine.specs.declared.parts.Value.TheVariants as Val
use Rattle.machine.specs.declared.parts.Bound.{Bound}
use Rattle.machine.specs.declared.parts.Bound.TheVariants as Bind
use Rattle.machine.specs.declared.parts.Cell.{Cell}
use Rattle.machine.specs.declared.parts.Cell.TheVariants as Holding
use Rattle.machine.specs.declared.parts.Continuation.{Continuation}
use Rattle.machine.specs.declared.parts.Continuation.TheVariants as Cont
use Rattle.machine.specs.declared.parts.Task.{Task}
use Rattle.machine.specs.declared.parts.Task.TheVariants as Does
use Rattle.machine.specs.declared.parts.Phase.{Phase}
use Rattle.machine.specs.declared.parts.Phase.TheVariants as Now
use Rattle.machine.specs.declared.parts.SiteRow.{SiteRow}
use Rattle.machine.specs.declared.parts.Store.{Store}

environment_prop : (n : ℕ) (e : Environment) → IsProp (EnvironmentIn n e)
environment_prop n Env.Empty = Unit-prop
environment_prop n (Env.Cell i) = le_prop

module _ (cs : List Cell) (n : ℕ) where
  value_prop : (v : Value) → IsProp (ValueIn cs n v)
  value_prop (Val.Number k) = Unit-prop
  value_prop (Val.Function p e) = environment_prop n e
  value_prop (Val.Code p e) = environment_prop n e
  value_prop (Val.Address s l) = Unit-prop
  value_prop (Val.Pair i) = ×_prop le_prop (Bool-set _ _)

  bound_prop : (b : Bound) → IsProp (BoundIn cs n b)
  bound_prop (Bind.Value v) = value_prop v
  bound_prop (Bind.Label s l) = Unit-prop
  bound_prop (Bind.World s) = Unit-prop
  bound_prop (Bind.Continuation s c) = Unit-prop

  cell_prop : (c : Cell) → IsProp (CellIn cs n c)
  cell_prop (Holding.Binding b r) = ×_prop (bound_prop b) (environment_prop n r)
  cell_prop (Holding.Pair a b) = ×_prop (value_prop a) (value_prop b)

  task_prop : (t : Task) → IsProp (TaskIn cs n t)
  task_prop (Does.Apply a e) = environment_prop n e
  task_prop (Does.Applied f) = value_prop f
  task_prop Does.Unbox = Unit-prop
  task_prop Does.Publish = Unit-prop
  task_prop (Does.Open b e) = environment_prop n e
  task_prop (Does.Pair b e) = environment_prop n e
  task_prop (Does.Paired a) = value_prop a
  task_prop Does.First = Unit-prop
  task_prop Does.Second = Unit-prop
  task_prop (Does.Compare b x y e) = environment_prop n e
  task_prop (Does.Compared a x y e) = ×_prop (value_prop a) (environment_prop n e)
  task_prop (Does.Set k) = Unit-prop

  phase_prop : (p : Phase) → IsProp (PhaseIn cs n p)
  phase_prop (Now.Eval p e) = environment_prop n e
  phase_prop (Now.Back v) = value_prop v

continuation_prop : (n : ℕ) (k : Continuation) → IsProp (ContinuationIn n k)
continuation_prop n Cont.Finish = Unit-prop
continuation_prop n Cont.Abort = Unit-prop
continuation_prop n (Cont.Return s c) = Unit-prop
continuation_prop n (Cont.Frame i) = le_prop

each_prop : {A : Type 0} (P : ℕ → A → Type 0) (xs : List A) → ((i : ℕ) (x : A) → IsProp (P i x)) → IsProp (Each P xs)
each_prop P xs h = Π_prop (λ i. Π_prop (λ x. Π_prop (λ e. h i x)))

row_prop : (cs : List Cell) (m : ℕ) (r : SiteRow) → IsProp (RowIn cs m r)
row_prop cs m r a b = λ i. record {
  published_in = each_prop (λ _ v. ValueIn cs (length cs) v) _ (λ _ v. value_prop cs (length cs) v) a.published_in b.published_in i;
  kept_in = each_prop (λ _ k. ContinuationIn m k) _ (λ _ k. continuation_prop m k) a.kept_in b.kept_in i;
  published_few = le_prop a.published_few b.published_few i;
  kept_few = le_prop a.kept_few b.kept_few i;
}

store_prop : (t : Store) → IsProp (StoreIn t)
store_prop t a b = λ i. record {
  cells_in = each_prop (λ k c. CellIn _ k c) _ (λ k c. cell_prop _ k c) a.cells_in b.cells_in i;
  frames_in = each_prop (λ k f. FrameIn _ k f) _ (λ k f. ×_prop (task_prop _ _ f.task) (continuation_prop k f.next)) a.frames_in b.frames_in i;
  rows_in = each_prop (λ _ r. RowIn _ _ r) _ (λ _ r. row_prop _ _ r) a.rows_in b.rows_in i;
  rows_are = ℕ_set _ _ a.rows_are b.rows_are i;
  counts = ℕ_set _ _ a.counts b.counts i;
  bindings_few = le_prop a.bindings_few b.bindings_few i;
  pairs_few = le_prop a.pairs_few b.pairs_few i;
  frames_few = le_prop a.frames_few b.frames_few i;
}

pub state_prop : (stations site : ℕ) (k : Continuation) (p : Phase) (t : Store) → IsProp (StateIn stations site k p t)
state_prop stations site k p t a b = λ i. record {
  store_in = store_prop t a.store_in b.store_in i;
  stations_few = le_prop a.stations_few b.stations_few i;
  site_in = le_prop a.site_in b.site_in i;
  work_in = ×_prop (phase_prop _ _ p) (continuation_prop _ k) a.work_in b.work_in i;
}

-- so it comes out of its truncation again
pub cells_out : (cs : List Cell) → ∥ Each (λ i c. CellIn cs i c) cs ∥₁ → Each (λ i c. CellIn cs i c) cs
cells_out cs h = ∥∥₁_elim h (each_prop (λ i c. CellIn cs i c) cs (λ i c. cell_prop cs i c)) (λ x. x)

pub value_out : (cs : List Cell) (n : ℕ) (v : Value) → ∥ ValueIn cs n v ∥₁ → ValueIn cs n v
value_out cs n v h = ∥∥₁_elim h (value_prop cs n v) (λ x. x)
