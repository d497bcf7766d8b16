-- What always holds of a machine's tables: each entry names only earlier entries, and the tables are within their limits.
use Rattle.std.specs.Prelude.{◌≡◌, ℕ, zero, suc, ◌+◌, ◌<◌, ◌≤◌, Bool, true, false, List, [], ◌∷◌, length}
use Rattle.std.proofs.Math.Option.{some}
use Rattle.std.proofs.Math.ListN.{get_elem?}
use Rattle.machine.specs.declared.parts.Environment.{Environment}
use Rattle.machine.specs.declared.parts.Environment.TheVariants as Env
use Rattle.machine.specs.declared.parts.Value.{Value}
use Rattle.machine.specs.declared.parts.Value.TheVariants as Val
use Rattle.machine.specs.declared.parts.Bound.{Bound}
use Rattle.machine.specs.declared.parts.Bound.TheVariants as Bind
use Rattle.machine.specs.declared.parts.Cell.{Cell}
use Rattle.machine.specs.declared.parts.Cell.TheVariants as Holds
use Rattle.machine.specs.declared.parts.Continuation.{Continuation}
use Rattle.machine.specs.declared.parts.Continuation.TheVariants as Cont
use Rattle.machine.specs.declared.parts.Task.{Task}
use Rattle.machine.specs.declared.parts.Task.TheVariants as Does
use Rattle.machine.specs.declared.parts.Frame.{Frame}
use Rattle.machine.specs.declared.parts.Phase.{Phase}
use Rattle.machine.specs.declared.parts.Phase.TheVariants as Now
use Rattle.machine.specs.declared.parts.SiteRow.{SiteRow}
use Rattle.machine.specs.declared.parts.Store.{Store}

-- whether a cell is a pair
abbrev pub is_pair : Cell → Bool
is_pair (Holds.Binding b r) = false
is_pair (Holds.Pair a b) = true

abbrev pub pair_at : List Cell → ℕ → Bool
pair_at [] i = false
pair_at (c ∷ cs) zero = is_pair c
pair_at (c ∷ cs) (suc i) = pair_at cs i

-- The chain names one of the first n cells.
abbrev pub EnvironmentIn : ℕ → Environment → Type 0
EnvironmentIn n Env.Empty = Unit {0}
EnvironmentIn n (Env.Cell i) = i < n

-- The value names only cells among the first n, and a pair's cell is a pair.
abbrev pub ValueIn : List Cell → ℕ → Value → Type 0
ValueIn cs n (Val.Number k) = Unit {0}
ValueIn cs n (Val.Function p e) = EnvironmentIn n e
ValueIn cs n (Val.Code p e) = EnvironmentIn n e
ValueIn cs n (Val.Address s l) = Unit {0}
ValueIn cs n (Val.Pair i) = (i < n) × (pair_at cs i ≡ true)

abbrev pub BoundIn : List Cell → ℕ → Bound → Type 0
BoundIn cs n (Bind.Value v) = ValueIn cs n v
BoundIn cs n (Bind.Label s l) = Unit {0}
BoundIn cs n (Bind.World s) = Unit {0}
BoundIn cs n (Bind.Continuation s c) = Unit {0}

abbrev pub CellIn : List Cell → ℕ → Cell → Type 0
CellIn cs n (Holds.Binding b r) = BoundIn cs n b × EnvironmentIn n r
CellIn cs n (Holds.Pair a b) = ValueIn cs n a × ValueIn cs n b

-- The continuation names one of the first m frames.
abbrev pub ContinuationIn : ℕ → Continuation → Type 0
ContinuationIn m Cont.Finish = Unit {0}
ContinuationIn m Cont.Abort = Unit {0}
ContinuationIn m (Cont.Return s c) = Unit {0}
ContinuationIn m (Cont.Frame i) = i < m

abbrev pub TaskIn : List Cell → ℕ → Task → Type 0
TaskIn cs n (Does.Apply a e) = EnvironmentIn n e
TaskIn cs n (Does.Applied f) = ValueIn cs n f
TaskIn cs n Does.Unbox = Unit {0}
TaskIn cs n Does.Publish = Unit {0}
TaskIn cs n (Does.Open b e) = EnvironmentIn n e
TaskIn cs n (Does.Pair b e) = EnvironmentIn n e
TaskIn cs n (Does.Paired a) = ValueIn cs n a
TaskIn cs n Does.First = Unit {0}
TaskIn cs n Does.Second = Unit {0}
TaskIn cs n (Does.Compare b x y e) = EnvironmentIn n e
TaskIn cs n (Does.Compared a x y e) = ValueIn cs n a × EnvironmentIn n e
TaskIn cs n (Does.Set k) = Unit {0}

abbrev pub FrameIn : List Cell → ℕ → Frame → Type 0
FrameIn cs m f = TaskIn cs (length cs) f.task × ContinuationIn m f.next

abbrev pub PhaseIn : List Cell → ℕ → Phase → Type 0
PhaseIn cs n (Now.Eval p e) = EnvironmentIn n e
PhaseIn cs n (Now.Back v) = ValueIn cs n v

-- What is done, and over which continuation, names entries that there are.
abbrev pub WorkIn : Store → Phase → Continuation → Type 0
WorkIn t p k = PhaseIn t.cells.items (length t.cells.items) p × ContinuationIn (length t.frames.items) k

-- what holds of each entry of a list, at its place
abbrev pub Each : {A : Type 0} → (ℕ → A → Type 0) → List A → Type 0
Each {A} P xs = (i : ℕ) (x : A) → get_elem? xs i ≡ some x → P i x

-- What one site has published and kept names cells and frames that there are; its tables are within their limits.
pub record RowIn (cs : List Cell) (m : ℕ) (r : SiteRow) : Type 0 where
  pub published_in : Each (λ _ v. ValueIn cs (length cs) v) r.published.items
  pub kept_in : Each (λ _ k. ContinuationIn m k) r.kept.items
  pub published_few : length r.published.items ≤ 128
  pub kept_few : length r.kept.items ≤ 256

-- Every cell and frame names earlier ones only, the cells are the bindings and the pairs, and the tables are within their
-- limits.
pub record StoreIn (t : Store) : Type 0 where
  pub cells_in : Each (λ i c. CellIn t.cells.items i c) t.cells.items
  pub frames_in : Each (λ i f. FrameIn t.cells.items i f) t.frames.items
  pub rows_in : Each (λ _ r. RowIn t.cells.items (length t.frames.items) r) t.rows
  pub rows_are : length t.rows ≡ 16
  pub counts : t.bindings + t.pairs ≡ length t.cells.items
  pub bindings_few : t.bindings ≤ 4096
  pub pairs_few : t.pairs ≤ 2048
  pub frames_few : length t.frames.items ≤ 4096

-- The tables are sound, work stands at one of the sites that there are, and what it holds names entries that there are.
pub record StateIn (stations site : ℕ) (k : Continuation) (p : Phase) (t : Store) : Type 0 where
  pub store_in : StoreIn t
  pub stations_few : stations ≤ 16
  pub site_in : site < stations
  pub work_in : WorkIn t p k
