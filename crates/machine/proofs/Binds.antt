-- The rules that add cells.
use Rattle.std.proofs.Common.{◌≡◌, ℕ, suc, ◌+◌, ◌<◌, ◌≤◌, true, List, [], ◌∷◌, ◌++◌, map, length, take, sym, refl, ap, ◌∙◌, subst, arith}
use Rattle.calculus.specs.Machine
use Rattle.machine.specs.Meaning.{environment_of, value_of, bound_of, meanings, continuation_of, chains, phase_of, published_of, kept_of, cells_of, sites_of, places_of, state_of}
use Rattle.machine.specs.Sound.{pair_at, EnvironmentIn, ValueIn, BoundIn, ContinuationIn, StateIn}
use Rattle.machine.specs.Answers.{scope, over, held}
use Rattle.machine.specs.Store.{CellPushed}
use Rattle.machine.specs.declared.parts.Environment.{Environment}
use Rattle.machine.specs.declared.parts.Environment.TheVariants as Env
use Rattle.machine.specs.declared.parts.Value.{Value}
use Rattle.machine.specs.declared.parts.Value.TheVariants as Val
use Rattle.machine.specs.declared.parts.Bound.{Bound}
use Rattle.machine.specs.declared.parts.Bound.TheVariants as Bind
use Rattle.machine.specs.declared.parts.Cell.{Cell}
use Rattle.machine.specs.declared.parts.Cell.TheVariants as Holds
use Rattle.machine.specs.declared.parts.Continuation.{Continuation}
use Rattle.machine.specs.declared.parts.Phase.{Phase}
use Rattle.machine.specs.declared.parts.Phase.TheVariants as Now
use Rattle.machine.specs.declared.parts.Store.{Store}
use Rattle.machine.specs.declared.parts.State.{State}
use Rattle.machine.proofs.Cells.{Grown, grown}
use Rattle.machine.proofs.Sound.{sound, Makes}

-- what there was means the same
pub record Alike (s t : Store) : Type 0 where
  pub frames_same : t.frames.items ≡ s.frames.items
  pub chains_same : chains (meanings t.cells.items) t.frames.items ≡ chains (meanings s.cells.items) s.frames.items
  pub published_same : map (published_of (meanings t.cells.items)) t.rows ≡ map (published_of (meanings s.cells.items)) s.rows
  pub kept_same : map (kept_of (chains (meanings t.cells.items) t.frames.items)) t.rows ≡ map (kept_of (chains (meanings s.cells.items) s.frames.items)) s.rows

pub grown_alike : (s t : Store) (c : Cell) (b p : ℕ) → Grown s t c b p → Alike s t
grown_alike s t c b p G = record {
  frames_same = G.frames_same;
  chains_same = G.chains_same;
  published_same = G.published_same;
  kept_same = λ i. map (kept_of (G.chains_same i)) (G.rows_same i);
}

alike_on : (s t u : Store) → Alike s t → Alike t u → Alike s u
alike_on s t u A B = record {
  frames_same = B.frames_same ∙ A.frames_same;
  chains_same = B.chains_same ∙ A.chains_same;
  published_same = B.published_same ∙ A.published_same;
  kept_same = B.kept_same ∙ A.kept_same;
}

-- the state over such tables
alike_state : (s : State) (t : Store) (k : Continuation) (p : Phase) (h : StateIn s.stations s.site k p t) → Alike s.store t → state_of (record { stations = s.stations; site = s.site; continuation = k; phase = p; store = t; sound = ∣ h ∣₁ }) ≡ Machine.state (sites_of s) s.site (over s k) (phase_of (meanings t.cells.items) p) (record { frames = length s.store.frames.items; bindings = t.bindings; pairs = t.pairs })
alike_state s t k p h A = λ i. Machine.state (record { published = take s.stations (A.published_same i); kept = take s.stations (A.kept_same i) }) s.site (continuation_of (A.chains_same i) k) (phase_of (meanings t.cells.items) p) (record { frames = length (A.frames_same i); bindings = t.bindings; pairs = t.pairs })

continuation_on : (s t : Store) (k : Continuation) → Alike s t → ContinuationIn (length s.frames.items) k → ContinuationIn (length t.frames.items) k
continuation_on s t k A h = subst (λ fs. ContinuationIn (length fs) k) (sym A.frames_same) h

module _ (s : State) (next : Continuation) (part : ℕ) (next-in : ContinuationIn (length s.store.frames.items) next) where
  pub bind_goes : (b : Bound) (rest : Environment) (t : Store) (e : Environment) → BoundIn s.store.cells.items (length s.store.cells.items) b → EnvironmentIn (length s.store.cells.items) rest → s.store.bindings + 1 ≤ 4096 → e ≡ Env.Cell (length s.store.cells.items) → CellPushed s.store t (Holds.Binding b rest) (s.store.bindings + 1) s.store.pairs → Makes s.stations s.site next (Now.Eval part e) t (Machine.state (sites_of s) s.site (over s next) (Machine.eval part (bound_of (cells_of s) b (scope s rest))) (Machine.binding_more (places_of s)))
  bind_goes b rest t e b-in rest_in few is q =
      let T = (sound s).store_in in
      let G = grown s.store T (Holds.Binding b rest) (b-in, rest_in) (s.store.bindings + 1) s.store.pairs (omega arith) few T.pairs_few t q in
      let A = grown_alike _ _ _ _ _ G in
      let long = G.cells_long in
      let one : t.bindings ≡ suc s.store.bindings = (let x = G.bindings_are in omega arith) in
      let env : environment_of (meanings t.cells.items) e ≡ bound_of (cells_of s) b (scope s rest) =
      ap (environment_of (meanings t.cells.items)) is ∙ ap (λ m. m.environment) G.here in
      let at : EnvironmentIn (length t.cells.items) e = subst (EnvironmentIn (length t.cells.items)) (sym is) (let x : length s.store.cells.items < length t.cells.items = omega arith in x) in
      let h : StateIn s.stations s.site next (Now.Eval part e) t = record { store_in = G.store_in; stations_few = (sound s).stations_few; site_in = (sound s).site_in; work_in = (at, continuation_on s.store t next A next-in) } in (
        h,
        alike_state s t next (Now.Eval part e) h A ∙ (λ i. Machine.state (sites_of s) s.site (over s next) (Machine.eval part (env i)) (record { frames = length s.store.frames.items; bindings = one i; pairs = G.pairs_are i })),
      )

  -- after the first of two bindings
  pub world_grown : (w : ℕ) (rest : Environment) (t : Store) → EnvironmentIn (length s.store.cells.items) rest → s.store.bindings + 1 ≤ 4096 → CellPushed s.store t (Holds.Binding (Bind.World w) rest) (s.store.bindings + 1) s.store.pairs → Grown s.store t (Holds.Binding (Bind.World w) rest) (s.store.bindings + 1) s.store.pairs
  world_grown w rest t rest_in few q = grown s.store (sound s).store_in (Holds.Binding (Bind.World w) rest) (tt, rest_in) (s.store.bindings + 1) s.store.pairs (omega arith) few (sound s).store_in.pairs_few t q

  pub open_goes : (w l : ℕ) (rest : Environment) (t u : Store) (d e : Environment) → EnvironmentIn (length s.store.cells.items) rest → s.store.bindings + 2 ≤ 4096 → d ≡ Env.Cell (length s.store.cells.items) → CellPushed s.store t (Holds.Binding (Bind.World w) rest) (s.store.bindings + 1) s.store.pairs → e ≡ Env.Cell (length t.cells.items) → CellPushed t u (Holds.Binding (Bind.Label w l) d) (t.bindings + 1) t.pairs → Makes s.stations s.site next (Now.Eval part e) u (Machine.state (sites_of s) s.site (over s next) (Machine.eval part (Machine.label w l (Machine.world w (scope s rest)))) (Machine.binding_more (Machine.binding_more (places_of s))))
  open_goes w l rest t u d e rest_in few d-is q e-is p =
      let G = world_grown w rest t rest_in (omega arith) q in
      let T = G.store_in in
      let long = G.cells_long in
      let bs = G.bindings_are in
      let d-in : EnvironmentIn (length t.cells.items) d = subst (EnvironmentIn (length t.cells.items)) (sym d-is) (let x : length s.store.cells.items < length t.cells.items = omega arith in x) in
      let F = grown t T (Holds.Binding (Bind.Label w l) d) (tt, d-in) (t.bindings + 1) t.pairs (omega arith) (omega arith) T.pairs_few u p in
      let A = alike_on s.store t u (grown_alike _ _ _ _ _ G) (grown_alike _ _ _ _ _ F) in
      let longer = F.cells_long in
      let two : u.bindings ≡ suc (suc s.store.bindings) = (let x = F.bindings_are in omega arith) in
      let env : environment_of (meanings u.cells.items) e ≡ Machine.label w l (Machine.world w (scope s rest)) =
      ap (environment_of (meanings u.cells.items)) e-is
      ∙ ap (λ m. m.environment) F.here
      ∙ ap (λ x. Machine.label w l (environment_of (meanings t.cells.items) x)) d-is
      ∙ ap (λ m. Machine.label w l m.environment) G.here in
      let at : EnvironmentIn (length u.cells.items) e = subst (EnvironmentIn (length u.cells.items)) (sym e-is) (let x : length t.cells.items < length u.cells.items = omega arith in x) in
      let h : StateIn s.stations s.site next (Now.Eval part e) u = record { store_in = F.store_in; stations_few = (sound s).stations_few; site_in = (sound s).site_in; work_in = (at, continuation_on s.store u next A next-in) } in (
        h,
        alike_state s u next (Now.Eval part e) h A ∙ (λ i. Machine.state (sites_of s) s.site (over s next) (Machine.eval part (env i)) (record { frames = length s.store.frames.items; bindings = two i; pairs = (F.pairs_are ∙ G.pairs_are) i })),
      )

pair_here : (cs : List Cell) (a b : Value) → pair_at (cs ++ Holds.Pair a b ∷ []) (length cs) ≡ true
pair_here [] a b = refl
pair_here (c ∷ cs) a b = pair_here cs a b

module _ (s : State) (next : Continuation) (next-in : ContinuationIn (length s.store.frames.items) next) where
  pub join_goes : (a b : Value) (t : Store) (v : Value) → ValueIn s.store.cells.items (length s.store.cells.items) a → ValueIn s.store.cells.items (length s.store.cells.items) b → s.store.pairs + 1 ≤ 2048 → v ≡ Val.Pair (length s.store.cells.items) → CellPushed s.store t (Holds.Pair a b) s.store.bindings (s.store.pairs + 1) → Makes s.stations s.site next (Now.Back v) t (Machine.state (sites_of s) s.site (over s next) (Machine.back (Machine.pair (held s a) (held s b))) (Machine.pair_more (places_of s)))
  join_goes a b t v a_in b-in few is q =
      let T = (sound s).store_in in
      let cs = s.store.cells.items in
      let G = grown s.store T (Holds.Pair a b) (a_in, b-in) s.store.bindings (s.store.pairs + 1) (omega arith) T.bindings_few few t q in
      let A = grown_alike _ _ _ _ _ G in
      let long = G.cells_long in
      let one : t.pairs ≡ suc s.store.pairs = (let x = G.pairs_are in omega arith) in
      let val : value_of (meanings t.cells.items) v ≡ Machine.pair (held s a) (held s b) = ap (value_of (meanings t.cells.items)) is ∙ ap (λ m. m.pair) G.here in
      let here : pair_at t.cells.items (length cs) ≡ true = ap (λ x. pair_at x (length cs)) G.cells_are ∙ pair_here cs a b in
      let below : length cs < length t.cells.items = omega arith in
      let at : ValueIn t.cells.items (length t.cells.items) v = subst (ValueIn t.cells.items (length t.cells.items)) (sym is) (below, here) in
      let h : StateIn s.stations s.site next (Now.Back v) t = record { store_in = G.store_in; stations_few = (sound s).stations_few; site_in = (sound s).site_in; work_in = (at, continuation_on s.store t next A next-in) } in (
        h,
        alike_state s t next (Now.Back v) h A ∙ (λ i. Machine.state (sites_of s) s.site (over s next) (Machine.back (val i)) (record { frames = length s.store.frames.items; bindings = G.bindings_are i; pairs = one i })),
      )
