-- What tables stand for stays as it is when they grow.
use Rattle.std.proofs.Common.{◌≡◌, ℕ, zero, suc, ◌≤◌, true, List, [], ◌∷◌, ◌++◌, length, get_or, refl, ap, arith}
use mathlib.Core.Option.{some}
use lib.ListN.{get_elem?}
use Rattle.calculus.specs.Machine
use Rattle.machine.specs.Meaning.{Meaning, environment_of, value_of, bound_of, cell_of, meanings, continuation_of, task_of, frame_of, chains, blank}
use Rattle.machine.specs.Sound.{pair_at, is_pair, EnvironmentIn, ValueIn, BoundIn, CellIn, ContinuationIn, TaskIn, FrameIn, Each}
use Rattle.machine.proofs.Growth.{default_left, grow_push, grow_length, grow_same, grow_read}
use Rattle.machine.specs.declared.parts.Environment.{Environment}
use Rattle.machine.specs.declared.parts.Environment.TheVariants as Env
use Rattle.machine.specs.declared.parts.Value.{Value}
use Rattle.machine.specs.declared.parts.Value.TheVariants as Val
use Rattle.machine.specs.declared.parts.Bound.{Bound}
use Rattle.machine.specs.declared.parts.Bound.TheVariants as Bind
use Rattle.machine.specs.declared.parts.Cell.{Cell}
use Rattle.machine.specs.declared.parts.Cell.TheVariants as Holds
use Rattle.machine.specs.declared.parts.Continuation.{Continuation}
use Rattle.machine.specs.declared.parts.Continuation.TheVariants as Cont
use Rattle.machine.specs.declared.parts.Task.{Task}
use Rattle.machine.specs.declared.parts.Task.TheVariants as Does
use Rattle.machine.specs.declared.parts.Frame.{Frame}

pub pair_more : (cs ds : List Cell) (i : ℕ) → pair_at cs i ≡ true → pair_at (cs ++ ds) i ≡ true
pair_more [] ds i e = absurd (grind arith)
pair_more (c ∷ cs) ds zero e = e
pair_more (c ∷ cs) ds (suc i) e = pair_more cs ds i e

is_a_pair : (c : Cell) → is_pair c ≡ true → (a : Value) × (b : Value) × (c ≡ Holds.Pair a b)
is_a_pair (Holds.Binding b r) e = absurd (grind arith)
is_a_pair (Holds.Pair a b) e = (a, b, refl)

-- the two halves of a pair's cell
pub pair_cell : (cs : List Cell) (i : ℕ) → pair_at cs i ≡ true → (a : Value) × (b : Value) × (get_elem? cs i ≡ some (Holds.Pair a b))
pair_cell [] i e = absurd (grind arith)
pair_cell (c ∷ cs) zero e = let p = is_a_pair c e in (p.0, p.1, ap some p.2)
pair_cell (c ∷ cs) (suc i) e = pair_cell cs i e

-- what is named stays named in longer tables
pub environment_up : (n m : ℕ) (e : Environment) → n ≤ m → EnvironmentIn n e → EnvironmentIn m e
environment_up n m Env.Empty l h = tt
environment_up n m (Env.Cell i) l h = omega arith

pub continuation_up : (n m : ℕ) (k : Continuation) → n ≤ m → ContinuationIn n k → ContinuationIn m k
continuation_up n m Cont.Finish l h = tt
continuation_up n m Cont.Abort l h = tt
continuation_up n m (Cont.Return s c) l h = tt
continuation_up n m (Cont.Frame i) l h = omega arith

module _ (cs ds : List Cell) (n m : ℕ) (l : n ≤ m) where
  pub value_up : (v : Value) → ValueIn cs n v → ValueIn (cs ++ ds) m v
  value_up (Val.Number k) h = tt
  value_up (Val.Function p e) h = environment_up n m e l h
  value_up (Val.Code p e) h = environment_up n m e l h
  value_up (Val.Address s k) h = tt
  value_up (Val.Pair i) h = ((let b = h.0 in omega arith), pair_more cs ds i h.1)

  pub bound_up : (b : Bound) → BoundIn cs n b → BoundIn (cs ++ ds) m b
  bound_up (Bind.Value v) h = value_up v h
  bound_up (Bind.Label s k) h = tt
  bound_up (Bind.World s) h = tt
  bound_up (Bind.Continuation s k) h = tt

  pub cell_up : (c : Cell) → CellIn cs n c → CellIn (cs ++ ds) m c
  cell_up (Holds.Binding b r) h = (bound_up b h.0, environment_up n m r l h.1)
  cell_up (Holds.Pair a b) h = (value_up a h.0, value_up b h.1)

  pub task_up : (t : Task) → TaskIn cs n t → TaskIn (cs ++ ds) m t
  task_up (Does.Apply a e) h = environment_up n m e l h
  task_up (Does.Applied f) h = value_up f h
  task_up Does.Unbox h = tt
  task_up Does.Publish h = tt
  task_up (Does.Open b e) h = environment_up n m e l h
  task_up (Does.Pair b e) h = environment_up n m e l h
  task_up (Does.Paired a) h = value_up a h
  task_up Does.First h = tt
  task_up Does.Second h = tt
  task_up (Does.Compare b x y e) h = environment_up n m e l h
  task_up (Does.Compared a x y e) h = (value_up a h.0, environment_up n m e l h.1)
  task_up (Does.Set k) h = tt

-- what is named among the first entries means the same in a longer table
module _ (ms ns : List Meaning) where
  pub environment_stays : (e : Environment) → EnvironmentIn (length ms) e → environment_of (ms ++ ns) e ≡ environment_of ms e
  environment_stays Env.Empty h = refl
  environment_stays (Env.Cell i) h = ap (λ x. x.environment) (default_left ms ns i blank h)

  module _ (cs : List Cell) where
    pub value_stays : (v : Value) → ValueIn cs (length ms) v → value_of (ms ++ ns) v ≡ value_of ms v
    value_stays (Val.Number k) h = refl
    value_stays (Val.Function p e) h = ap (Machine.function p) (environment_stays e h)
    value_stays (Val.Code p e) h = ap (Machine.code p) (environment_stays e h)
    value_stays (Val.Address s l) h = refl
    value_stays (Val.Pair i) h = ap (λ x. x.pair) (default_left ms ns i blank h.0)

    bound_stays : (b : Bound) (ρ : Machine.Environment) → BoundIn cs (length ms) b → bound_of (ms ++ ns) b ρ ≡ bound_of ms b ρ
    bound_stays (Bind.Value v) ρ h = ap (λ x. Machine.value x ρ) (value_stays v h)
    bound_stays (Bind.Label s l) ρ h = refl
    bound_stays (Bind.World s) ρ h = refl
    bound_stays (Bind.Continuation s c) ρ h = refl

    pub cell_stays : (c : Cell) → CellIn cs (length ms) c → cell_of (ms ++ ns) c ≡ cell_of ms c
    cell_stays (Holds.Binding b r) h = rw (environment_stays r h.1, bound_stays b (environment_of ms r) h.0)
    cell_stays (Holds.Pair a b) h = rw (value_stays a h.0, value_stays b h.1)

    pub task_stays : (t : Task) → TaskIn cs (length ms) t → task_of (ms ++ ns) t ≡ task_of ms t
    task_stays (Does.Apply a e) h = ap (Machine.to_apply a) (environment_stays e h)
    task_stays (Does.Applied f) h = ap Machine.applied (value_stays f h)
    task_stays Does.Unbox h = refl
    task_stays Does.Publish h = refl
    task_stays (Does.Open b e) h = ap (Machine.opening b) (environment_stays e h)
    task_stays (Does.Pair b e) h = ap (Machine.to_pair b) (environment_stays e h)
    task_stays (Does.Paired a) h = ap Machine.paired (value_stays a h)
    task_stays Does.First h = refl
    task_stays Does.Second h = refl
    task_stays (Does.Compare b x y e) h = ap (Machine.to_compare b x y) (environment_stays e h)
    task_stays (Does.Compared a x y e) h = rw (value_stays a h.0, environment_stays e h.1)
    task_stays (Does.Set k) h = refl

pub continuation_stays : (ks js : List Machine.Continuation) (k : Continuation) → ContinuationIn (length ks) k → continuation_of (ks ++ js) k ≡ continuation_of ks k
continuation_stays ks js Cont.Finish h = refl
continuation_stays ks js Cont.Abort h = refl
continuation_stays ks js (Cont.Return s c) h = refl
continuation_stays ks js (Cont.Frame i) h = default_left ks js i Machine.finish h

pub meanings_push : (cs : List Cell) (c : Cell) → meanings (cs ++ c ∷ []) ≡ meanings cs ++ cell_of (meanings cs) c ∷ []
meanings_push cs c = grow_push cell_of [] cs c

pub meanings_length : (cs : List Cell) → length (meanings cs) ≡ length cs
meanings_length cs = let h = grow_length cell_of [] cs in omega arith

-- a cell means what it means over all cells
pub meanings_read : (cs : List Cell) (i : ℕ) (c : Cell) → Each (λ k b. CellIn cs k b) cs → get_elem? cs i ≡ some c → get_or (meanings cs) i blank ≡ cell_of (meanings cs) c
meanings_read cs i c all e = grow_read cell_of (λ k b. CellIn cs k b) (λ ms ns b h. cell_stays ms ns cs b h) cs i c blank all e

pub chains_push : (ms : List Meaning) (fs : List Frame) (f : Frame) → chains ms (fs ++ f ∷ []) ≡ chains ms fs ++ frame_of ms (chains ms fs) f ∷ []
chains_push ms fs f = grow_push (frame_of ms) [] fs f

pub chains_length : (ms : List Meaning) (fs : List Frame) → length (chains ms fs) ≡ length fs
chains_length ms fs = let h = grow_length (frame_of ms) [] fs in omega arith

-- a frame means what it means over all frames
pub chains_read : (ms : List Meaning) (cs : List Cell) (fs : List Frame) (i : ℕ) (f : Frame) → Each (λ k g. FrameIn cs k g) fs → get_elem? fs i ≡ some f → get_or (chains ms fs) i Machine.finish ≡ frame_of ms (chains ms fs) f
chains_read ms cs fs i f all e =
    grow_read (frame_of ms) (λ k g. FrameIn cs k g) (λ ks js g h. ap (Machine.push (task_of ms g.task)) (continuation_stays ks js g.next h.1)) fs i f Machine.finish all e

-- frames mean the same over more cells
pub chains_stay : (ms ns : List Meaning) (cs : List Cell) (fs : List Frame) → length ms ≡ length cs → Each (λ k g. FrameIn cs k g) fs → chains (ms ++ ns) fs ≡ chains ms fs
chains_stay ms ns cs fs long all =
    grow_same (frame_of (ms ++ ns)) (frame_of ms) [] fs
    (λ i f ks e. ap (λ j. Machine.push j (continuation_of ks f.next)) (task_stays ms ns cs f.task (rw long (all i f e).0)))
