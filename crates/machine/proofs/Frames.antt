-- A new frame: what holds stays, and the state has that frame on top.
use Rattle.std.proofs.Common.{◌≡◌, ℕ, suc, ◌+◌, ◌≤◌, List, [], ◌∷◌, ◌++◌, map, length, get_or, take, sym, refl, ap, ◌∙◌, subst, arith}
use Rattle.rows.specs.Rows.{Rows}
use Rattle.calculus.specs.Machine
use Rattle.machine.specs.Meaning.{task_of, continuation_of, frame_of, chains, kept_of, cells_of, chains_of, sites_of, places_of}
use Rattle.machine.specs.Sound.{EnvironmentIn, ContinuationIn, TaskIn, FrameIn, Each, RowIn, StoreIn}
use Rattle.machine.specs.Answers.{scope, over}
use Rattle.machine.specs.Store.{with_frames, FramePushed}
use Rattle.machine.proofs.Growth.{default_here, each_push, map_same}
use Rattle.machine.proofs.Stays.{continuation_up, continuation_stays, chains_push, chains_length}
use Rattle.machine.specs.declared.parts.Environment.{Environment}
use Rattle.machine.specs.declared.parts.Cell.{Cell}
use Rattle.machine.specs.declared.parts.Continuation.{Continuation}
use Rattle.machine.specs.declared.parts.Continuation.TheVariants as Cont
use Rattle.machine.specs.declared.parts.Task.{Task}
use Rattle.machine.specs.declared.parts.Frame.{Frame}
use Rattle.machine.specs.declared.parts.Phase.TheVariants as Now
use Rattle.machine.specs.declared.parts.SiteRow.{SiteRow}
use Rattle.machine.specs.declared.parts.Store.{Store}
use Rattle.machine.specs.declared.parts.State.{State}
use Rattle.machine.proofs.Sound.{sound, Makes}

pub length_push : {A : Type 0} (xs : List A) (x : A) → length (xs ++ x ∷ []) ≡ suc (length xs)
length_push [] x = refl
length_push (y ∷ xs) x = ap suc (length_push xs x)

pub row_over : (cs : List Cell) (m n : ℕ) (r : SiteRow) → m ≤ n → RowIn cs m r → RowIn cs n r
row_over cs m n r l h = record {
  published_in = h.published_in;
  kept_in = λ i k e. continuation_up m n k l (h.kept_in i k e);
  published_few = h.published_few;
  kept_few = h.kept_few;
}

-- kept continuations over more frames
kept_over : (cs : List Cell) (ks js : List Machine.Continuation) (rs : List SiteRow) → Each (λ _ r. RowIn cs (length ks) r) rs → map (kept_of (ks ++ js)) rs ≡ map (kept_of ks) rs
kept_over cs ks js rs all =
    map_same (kept_of (ks ++ js)) (kept_of ks) rs
    (λ i r e. map_same (continuation_of (ks ++ js)) (continuation_of ks) r.kept.items (λ j k q. continuation_stays ks js k ((all i r e).kept_in j k q)))

module _ (s : State) (task : Task) (next : Continuation) (part : ℕ) (e : Environment) (task-in : TaskIn s.store.cells.items (length s.store.cells.items) task) (next-in : ContinuationIn (length s.store.frames.items) next) (e-in : EnvironmentIn (length s.store.cells.items) e) where
  abbrev Goal : Store → Type 0
  Goal t = Makes s.stations s.site (Cont.Frame (length s.store.frames.items)) (Now.Eval part e) t (Machine.state (sites_of s) s.site (Machine.push (task_of (cells_of s) task) (over s next)) (Machine.eval part (scope s e)) (Machine.frame_more (places_of s)))

  push_main : (v : Rows Frame) → v.items ≡ s.store.frames.items ++ record { task = task; next = next } ∷ [] → length s.store.frames.items + 1 ≤ 4096 → Goal (with_frames s.store v)
  push_main v items few =
      let f : Frame = record { task = task; next = next } in
      let cs = s.store.cells.items in
      let fs = s.store.frames.items in
      let ms = cells_of s in
      let ks = chains_of s in
      let long : length v.items ≡ suc (length fs) = ap length items ∙ length_push fs f in
      let T = (sound s).store_in in
      let all : Each (λ i x. FrameIn cs i x) v.items = rw items (each_push (λ i x. FrameIn cs i x) fs f T.frames_in (task-in, next-in)) in
      let t-in : StoreIn (with_frames s.store v) = record {
        cells_in = T.cells_in;
        frames_in = all;
        rows_in = λ i r q. row_over cs (length fs) (length v.items) r (omega arith) (T.rows_in i r q);
        rows_are = T.rows_are;
        counts = T.counts;
        bindings_few = T.bindings_few;
        pairs_few = T.pairs_few;
        frames_few = omega arith;
      } in
      let ks-long : length ks ≡ length fs = chains_length ms fs in
      let ks' : chains ms v.items ≡ ks ++ frame_of ms ks f ∷ [] = ap (chains ms) items ∙ chains_push ms fs f in
      let top : get_or (chains ms v.items) (length fs) Machine.finish ≡ Machine.push (task_of ms task) (continuation_of ks next) =
      ap (λ w. get_or w (length fs) Machine.finish) ks' ∙ ap (λ n. get_or (ks ++ frame_of ms ks f ∷ []) n Machine.finish) (sym ks-long) ∙ default_here ks (frame_of ms ks f) Machine.finish in
      let kept : map (kept_of (chains ms v.items)) s.store.rows ≡ map (kept_of ks) s.store.rows =
      ap (λ w. map (kept_of w) s.store.rows) ks' ∙ kept_over cs ks (frame_of ms ks f ∷ []) s.store.rows (λ i r q. rw ks-long (T.rows_in i r q)) in (
        record { store_in = t-in; stations_few = (sound s).stations_few; site_in = (sound s).site_in; work_in = (e-in, omega arith) },
        λ i. Machine.state (record { published = (sites_of s).published; kept = take s.stations (kept i) }) s.site (top i) (Machine.eval part (scope s e)) (record { frames = long i; bindings = s.store.bindings; pairs = s.store.pairs }),
      )

  pub push_goes : (t : Store) → FramePushed s.store t (record { task = task; next = next }) → length s.store.frames.items + 1 ≤ 4096 → Goal t
  push_goes t p few = subst Goal (sym p.rest) (push_main t.frames p.frames few)
