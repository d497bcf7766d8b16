-- A row of the sites that is set: what holds stays, and the state has that row.
use Rattle.std.proofs.Common.{◌≡◌, ℕ, zero, suc, ◌+◌, ◌<◌, ◌≤◌, List, [], ◌∷◌, ◌++◌, map, length, get_or, take, set, Ok, Err, Result, sym, refl, ap, ◌∙◌, subst, arith}
use mathlib.Core.Option.{Option, some, none-ne-some}
use lib.ListN.{get_elem?}
use lib.Seq.{map-set}
use Rattle.calculus.specs.Machine
use Rattle.calculus.specs.Tables.{count, add}
use Rattle.machine.specs.Meaning.{environment_of, value_of, meanings, continuation_of, chains, published_of, kept_of, cells_of, chains_of, sites_of, places_of}
use Rattle.machine.specs.Sound.{EnvironmentIn, ValueIn, ContinuationIn, Each, RowIn, WorkIn, StoreIn}
use Rattle.machine.specs.Answers.{scope, over, held}
use Rattle.machine.specs.Store.{with_row, CellPushed, RowPublished, RowKept, Takes, Added, Published, Kept, published_in, kept_in, published_count, kept_count}
use Rattle.rows.specs.Rows.{Rows}
use Rattle.std.proofs.lemmas.List.{set-get_or}
use Rattle.lines.specs.declared.refusal.StepFault.{StepFault}
use Rattle.lines.specs.declared.refusal.Table.TheVariants as Table
use Rattle.machine.specs.declared.parts.Environment.{Environment}
use Rattle.machine.specs.declared.parts.Environment.TheVariants as Env
use Rattle.machine.specs.declared.parts.Value.{Value}
use Rattle.machine.specs.declared.parts.Value.TheVariants as Val
use Rattle.machine.specs.declared.parts.Bound.TheVariants as Bind
use Rattle.machine.specs.declared.parts.Cell.{Cell}
use Rattle.machine.specs.declared.parts.Cell.TheVariants as Holds
use Rattle.machine.specs.declared.parts.Continuation.{Continuation}
use Rattle.machine.specs.declared.parts.Continuation.TheVariants as Cont
use Rattle.machine.specs.declared.parts.Phase.TheVariants as Now
use Rattle.machine.specs.declared.parts.SiteRow.{SiteRow}
use Rattle.machine.specs.declared.parts.Store.{Store}
use Rattle.machine.specs.declared.parts.State.{State}
use Rattle.machine.proofs.Growth.{each_push, elem_getD}
use Rattle.machine.proofs.Frames.{length_push}
use Rattle.machine.proofs.Room.{site_row, map_length}
use Rattle.machine.proofs.Cells.{grown}
use Rattle.machine.proofs.Sound.{sound, Makes}

module _ {A : Type 0} where
  pub each_set : (P : ℕ → A → Type 0) (xs : List A) (w : ℕ) (x : A) → Each P xs → P w x → Each P (set xs w x)
  each_set P [] w x all h i y e = all i y e
  each_set P (z ∷ xs) zero x all h zero y e = let q : x ≡ y = cc in subst (P 0) q h
  each_set P (z ∷ xs) zero x all h (suc i) y e = all (suc i) y e
  each_set P (z ∷ xs) (suc w) x all h zero y e = all zero y e
  each_set P (z ∷ xs) (suc w) x all h (suc i) y e = each_set (λ k. P (suc k)) xs w x (λ k v q. all (suc k) v q) h i y e

  pub set_length : (xs : List A) (w : ℕ) (x : A) → length (set xs w x) ≡ length xs
  set_length [] w x = refl
  set_length (y ∷ xs) zero x = refl
  set_length (y ∷ xs) (suc w) x = ap suc (set_length xs w x)

  take_set : (xs : List A) (n w : ℕ) (x : A) → take n (set xs w x) ≡ set (take n xs) w x
  take_set xs zero w x = refl
  take_set [] (suc n) w x = refl
  take_set (y ∷ xs) (suc n) zero x = refl
  take_set (y ∷ xs) (suc n) (suc w) x = ap (λ zs. y ∷ zs) (take_set xs n w x)

  set_same : (xs : List A) (w : ℕ) (x : A) → get_elem? xs w ≡ some x → set xs w x ≡ xs
  set_same [] w x e = refl
  set_same (y ∷ xs) zero x e = let q : x ≡ y = cc in ap (λ z. z ∷ xs) q
  set_same (y ∷ xs) (suc w) x e = ap (λ zs. y ∷ zs) (set_same xs w x e)

map_push : {A B : Type 0} (f : A → B) (xs : List A) (x : A) → map f (xs ++ x ∷ []) ≡ map f xs ++ f x ∷ []
map_push f [] x = refl
map_push f (y ∷ xs) x = ap (λ zs. f y ∷ zs) (map_push f xs x)

map_elem : {A B : Type 0} (f : A → B) (xs : List A) (i : ℕ) (x : A) → get_elem? xs i ≡ some x → get_elem? (map f xs) i ≡ some (f x)
map_elem f [] i x e = absurd (none-ne-some x e)
map_elem f (y ∷ xs) zero x e = let q : y ≡ x = cc in ap (λ v. some (f v)) q
map_elem f (y ∷ xs) (suc i) x e = map_elem f xs i x e

-- one row's entries grow by one
row_adds : {A : Type 0} (f : SiteRow → List A) (rows : List SiteRow) (n w : ℕ) (old new : SiteRow) (a : A) → w < n → get_elem? rows w ≡ some old → f new ≡ f old ++ a ∷ [] → take n (map f (set rows w new)) ≡ add (take n (map f rows)) w a
row_adds f rows n w old new a l was more =
    ap (take n) (map-set f rows w new)
    ∙ take_set (map f rows) n w (f new)
    ∙ ap (set (take n (map f rows)) w) (more ∙ ap (λ r. r ++ a ∷ []) (sym (site_row f rows n w old l was)))

-- or stay
row_stays : {A : Type 0} (f : SiteRow → List A) (rows : List SiteRow) (w : ℕ) (old new : SiteRow) → get_elem? rows w ≡ some old → f new ≡ f old → map f (set rows w new) ≡ map f rows
row_stays f rows w old new was same = map-set f rows w new ∙ ap (set (map f rows) w) same ∙ set_same (map f rows) w (f old) (map_elem f rows w old was)

store_set : (s : Store) (w : ℕ) (new : SiteRow) → StoreIn s → RowIn s.cells.items (length s.frames.items) new → StoreIn (with_row s w new)
store_set s w new T new_in = record {
  cells_in = T.cells_in;
  frames_in = T.frames_in;
  rows_in = each_set (λ _ r. RowIn s.cells.items (length s.frames.items) r) s.rows w new T.rows_in new_in;
  rows_are = set_length s.rows w new ∙ T.rows_are;
  counts = T.counts;
  bindings_few = T.bindings_few;
  pairs_few = T.pairs_few;
  frames_few = T.frames_few;
}

module _ (s : State) (old new : SiteRow) (was : get_elem? s.store.rows s.site ≡ some old) where
  abbrev cs : List Cell
  cs = s.store.cells.items

  abbrev frames : ℕ
  frames = length s.store.frames.items

  abbrev set_here : Store
  set_here = with_row s.store s.site new

  -- a value is published
  module _ (v : Value) (v-in : ValueIn cs (length cs) v) (r : RowPublished old new v) (few : length old.published.items + 1 ≤ 128) where
    published_row : RowIn cs frames new
    published_row =
        let O = (sound s).store_in.rows_in s.site old was in
        record {
          published_in = rw r.published (each_push (λ _ x. ValueIn cs (length cs) x) old.published.items v O.published_in v-in);
          kept_in = rw r.kept O.kept_in;
          published_few = (let b = ap length r.published ∙ length_push old.published.items v in omega arith);
          kept_few = rw r.kept O.kept_few;
        }

    set_published : (next : Continuation) → ContinuationIn frames next → (l : ℕ) → l ≡ length old.published.items → (t : Store) → t ≡ set_here → Makes s.stations s.site next (Now.Back (Val.Address s.site l)) t (Machine.state (Machine.publish (sites_of s) s.site (held s v)) s.site (over s next) (Machine.back (Machine.address s.site (count (sites_of s).published s.site))) (places_of s))
    set_published next next-in l l-is t t-is =
        let ms = cells_of s in
        let ks = chains_of s in
        let n = s.stations in
        let P : take n (map (published_of ms) (set s.store.rows s.site new)) ≡ add (sites_of s).published s.site (held s v) =
        row_adds (published_of ms) s.store.rows n s.site old new (held s v) (sound s).site_in was (ap (map (value_of ms)) r.published ∙ map_push (value_of ms) old.published.items v) in
        let K : map (kept_of ks) (set s.store.rows s.site new) ≡ map (kept_of ks) s.store.rows = row_stays (kept_of ks) s.store.rows s.site old new was (ap (λ k. map (continuation_of ks) k.items) r.kept) in
        let c : l ≡ count (sites_of s).published s.site = l-is ∙ sym (map_length (value_of ms) old.published.items) ∙ sym (ap length (site_row (published_of ms) s.store.rows n s.site old (sound s).site_in was)) in
        let G : Store → Type 0 = λ t. Makes s.stations s.site next (Now.Back (Val.Address s.site l)) t (Machine.state (Machine.publish (sites_of s) s.site (held s v)) s.site (over s next) (Machine.back (Machine.address s.site (count (sites_of s).published s.site))) (places_of s)) in
        subst G (sym t-is) (
          record { store_in = store_set s.store s.site new (sound s).store_in published_row; stations_few = (sound s).stations_few; site_in = (sound s).site_in; work_in = (tt, next-in) },
          λ i. Machine.state (record { published = P i; kept = take n (K i) }) s.site (over s next) (Machine.back (Machine.address s.site (c i))) (places_of s),
        )

  -- the continuation is kept
  module _ (r : RowKept old new s.continuation) (few : length old.kept.items + 1 ≤ 256) where
    kept_row : RowIn cs frames new
    kept_row =
        let O = (sound s).store_in.rows_in s.site old was in
        record {
          published_in = rw r.published O.published_in;
          kept_in = rw r.kept (each_push (λ _ x. ContinuationIn frames x) old.kept.items s.continuation O.kept_in (sound s).work_in.1);
          published_few = rw r.published O.published_few;
          kept_few = (let b = ap length r.kept ∙ length_push old.kept.items s.continuation in omega arith);
        }

    published_stay : map (published_of (cells_of s)) (set s.store.rows s.site new) ≡ map (published_of (cells_of s)) s.store.rows
    published_stay = row_stays (published_of (cells_of s)) s.store.rows s.site old new was (ap (λ k. map (value_of (cells_of s)) k.items) r.published)

    kept_adds : take s.stations (map (kept_of (chains_of s)) (set s.store.rows s.site new)) ≡ add (sites_of s).kept s.site (over s s.continuation)
    kept_adds = row_adds (kept_of (chains_of s)) s.store.rows s.stations s.site old new (over s s.continuation) (sound s).site_in was (ap (map (continuation_of (chains_of s))) r.kept ∙ map_push (continuation_of (chains_of s)) old.kept.items s.continuation)

    kept_is : (c : ℕ) → c ≡ length old.kept.items → c ≡ count (sites_of s).kept s.site
    kept_is c c-is = c-is ∙ sym (map_length (continuation_of (chains_of s)) old.kept.items) ∙ sym (ap length (site_row (kept_of (chains_of s)) s.store.rows s.stations s.site old (sound s).site_in was))

    pub kept_store : StoreIn set_here
    kept_store = store_set s.store s.site new (sound s).store_in kept_row

    set_gone : (w a : ℕ) (e : Environment) → w < s.stations → EnvironmentIn (length cs) e → (c : ℕ) → c ≡ length old.kept.items → (t : Store) → t ≡ set_here → Makes s.stations w (Cont.Return s.site c) (Now.Eval a e) t (Machine.state (Machine.keep (sites_of s) s.site (over s s.continuation)) w (Machine.return s.site (count (sites_of s).kept s.site)) (Machine.eval a (scope s e)) (places_of s))
    set_gone w a e w-in e-in c c-is t t-is =
        let G : Store → Type 0 = λ t. Makes s.stations w (Cont.Return s.site c) (Now.Eval a e) t (Machine.state (Machine.keep (sites_of s) s.site (over s s.continuation)) w (Machine.return s.site (count (sites_of s).kept s.site)) (Machine.eval a (scope s e)) (places_of s)) in
        subst G (sym t-is) (
          record { store_in = kept_store; stations_few = (sound s).stations_few; site_in = w-in; work_in = (e-in, tt) },
          λ i. Machine.state (record { published = take s.stations (published_stay i); kept = kept_adds i }) w (Machine.return s.site (kept_is c c-is i)) (Machine.eval a (scope s e)) (places_of s),
        )

    -- and bound
    set_caught : (a : ℕ) (e : Environment) → EnvironmentIn (length cs) e → s.store.bindings + 1 ≤ 4096 → (c : ℕ) → c ≡ length old.kept.items → (u : Store) (d : Environment) → d ≡ Env.Cell (length cs) → CellPushed set_here u (Holds.Binding (Bind.Continuation s.site c) e) (s.store.bindings + 1) s.store.pairs → Makes s.stations s.site s.continuation (Now.Eval a d) u (Machine.state (Machine.keep (sites_of s) s.site (over s s.continuation)) s.site (over s s.continuation) (Machine.eval a (Machine.continuation s.site (count (sites_of s).kept s.site) (scope s e))) (Machine.binding_more (places_of s)))
    set_caught a e e-in few c c-is u d d-is q =
        let T = kept_store in
        let n = s.stations in
        let F = grown set_here T (Holds.Binding (Bind.Continuation s.site c) e) (tt, e-in) (s.store.bindings + 1) s.store.pairs (omega arith) few T.pairs_few u q in
        let long = F.cells_long in
        let at : EnvironmentIn (length u.cells.items) d = subst (EnvironmentIn (length u.cells.items)) (sym d-is) (let x : length cs < length u.cells.items = omega arith in x) in
        let k-in : ContinuationIn (length u.frames.items) s.continuation = subst (λ fs. ContinuationIn (length fs) s.continuation) (sym F.frames_same) (sound s).work_in.1 in
        let one : u.bindings ≡ suc s.store.bindings = (let x = F.bindings_are in omega arith) in
        let env : environment_of (meanings u.cells.items) d ≡ Machine.continuation s.site (count (sites_of s).kept s.site) (scope s e) =
        ap (environment_of (meanings u.cells.items)) d-is ∙ ap (λ m. m.environment) F.here ∙ ap (λ x. Machine.continuation s.site x (scope s e)) (kept_is c c-is) in
        let P : map (published_of (meanings u.cells.items)) u.rows ≡ map (published_of (cells_of s)) s.store.rows = F.published_same ∙ published_stay in
        let K : take n (map (kept_of (chains (meanings u.cells.items) u.frames.items)) u.rows) ≡ add (sites_of s).kept s.site (over s s.continuation) =
        (λ i. take n (map (kept_of (F.chains_same i)) (F.rows_same i))) ∙ kept_adds in (
          record { store_in = F.store_in; stations_few = (sound s).stations_few; site_in = (sound s).site_in; work_in = (at, k-in) },
          λ i. Machine.state (record { published = take n (P i); kept = K i }) s.site (continuation_of (F.chains_same i) s.continuation) (Machine.eval a (env i)) (record { frames = length (F.frames_same i); bindings = one i; pairs = F.pairs_are i }),
        )

-- a value that was published, and the state then
pub publish_goes : (s : State) (v : Value) (next : Continuation) (t : Store) (l : ℕ) → WorkIn s.store (Now.Back v) next → (published_count s.store s.site + 1 ≤ 128) × Published s.store t s.site v l →
    Makes s.stations s.site next (Now.Back (Val.Address s.site l)) t (Machine.state (Machine.publish (sites_of s) s.site (held s v)) s.site (over s next) (Machine.back (Machine.address s.site (count (sites_of s).published s.site))) (places_of s))
publish_goes s v next t l work p = let q = p.1 in set_published s q.0 q.1 q.2.was v work.0 q.4 (subst (λ o. published_in o + 1 ≤ 128) q.2.was p.0) next work.1 l q.3 t q.2.rest

-- a continuation that was kept, and the state then
module _ (s : State) (t : Store) (c : ℕ) (k : (kept_count s.store s.site + 1 ≤ 256) × Kept s.store t s.site s.continuation c) (a : ℕ) (e : Environment) (e-in : EnvironmentIn (length s.store.cells.items) e) where
  fewer : length k.1.0.kept.items + 1 ≤ 256
  fewer = subst (λ o. kept_in o + 1 ≤ 256) k.1.2.was k.0

  pub get_goes : (w : ℕ) → w < s.stations → Makes s.stations w (Cont.Return s.site c) (Now.Eval a e) t (Machine.state (Machine.keep (sites_of s) s.site (over s s.continuation)) w (Machine.return s.site (count (sites_of s).kept s.site)) (Machine.eval a (scope s e)) (places_of s))
  get_goes w w-in = let q = k.1 in set_gone s q.0 q.1 q.2.was q.4 fewer w a e w-in e-in c q.3 t q.2.rest

  module _ (few : s.store.bindings + 1 ≤ 4096) where
    pub kept_there : StoreIn t × (t.bindings + 1 ≤ 4096)
    kept_there = let q = k.1 in (subst StoreIn (sym q.2.rest) (kept_store s q.0 q.1 q.2.was q.4 fewer), subst (λ x. x.bindings + 1 ≤ 4096) (sym q.2.rest) few)

    pub catch_goes : (u : Store) (d : Environment) → d ≡ Env.Cell (length t.cells.items) → CellPushed t u (Holds.Binding (Bind.Continuation s.site c) e) (t.bindings + 1) t.pairs → Makes s.stations s.site s.continuation (Now.Eval a d) u (Machine.state (Machine.keep (sites_of s) s.site (over s s.continuation)) s.site (over s s.continuation) (Machine.eval a (Machine.continuation s.site (count (sites_of s).kept s.site) (scope s e))) (Machine.binding_more (places_of s)))
    catch_goes u d is pushed =
        let q = k.1 in
        let D : Store → Type 0 = λ x. d ≡ Env.Cell (length x.cells.items) in
        let P : Store → Type 0 = λ x. CellPushed x u (Holds.Binding (Bind.Continuation s.site c) e) (x.bindings + 1) x.pairs in
        set_caught s q.0 q.1 q.2.was q.4 fewer a e e-in few c q.3 u d (subst D q.2.rest is) (subst P q.2.rest pushed)

-- a place that is taken in the row of a site
module _ (s : Store) (w : ℕ) (d : SiteRow) (h : w < length s.rows) where
  abbrev row : SiteRow
  row = get_or s.rows w d

  is_row : get_elem? s.rows w ≡ some row
  is_row = elem_getD s.rows w d h

  same_row : (q : SiteRow) → q ≡ row → with_row s w q ≡ s
  same_row q e = ap (λ rows. record { cells = s.cells; bindings = s.bindings; pairs = s.pairs; frames = s.frames; rows = rows }) (ap (set s.rows w) e ∙ set-get_or s.rows w d)

  module _ {A : Type 0} (f : SiteRow → List A) (count : Option SiteRow → ℕ) (counts : (r : SiteRow) → count (some r) ≡ length (f r)) where
    few_here : (n : ℕ) → length (f row) + 1 ≤ n → count (get_elem? s.rows w) + 1 ≤ n
    few_here n l = let e = ap count is_row ∙ counts row in omega arith

    many_here : (n : ℕ) → n < length (f row) + 1 → n < count (get_elem? s.rows w) + 1
    many_here n l = let e = ap count is_row ∙ counts row in omega arith

  pub takes_published : (v : Value) (q : Rows Value) (r : Result ℕ StepFault) → Takes r Table.Published 128 (length row.published.items + 1) (q.items ≡ row.published.items) (λ l. Added l row.published.items v q.items) →
      let new : SiteRow = record { published = q; kept = row.kept } in Takes r Table.Published 128 (published_count s w + 1) (with_row s w new ≡ s) (λ l. Published s (with_row s w new) w v l)
  takes_published v q (Ok l) t = (few_here (λ x. x.published.items) published_in (λ x. refl) 128 t.0, (row, record { published = q; kept = row.kept }, record { was = is_row; rest = refl }, t.1.0, record { published = t.1.1; kept = refl }))
  takes_published v q (Err f) t = (t.0, many_here (λ x. x.published.items) published_in (λ x. refl) 128 t.1, same_row _ (λ i. record { published = record { items = t.2 i }; kept = row.kept }))

  pub takes_kept : (k : Continuation) (q : Rows Continuation) (r : Result ℕ StepFault) → Takes r Table.Kept 256 (length row.kept.items + 1) (q.items ≡ row.kept.items) (λ c. Added c row.kept.items k q.items) →
      let new : SiteRow = record { published = row.published; kept = q } in Takes r Table.Kept 256 (kept_count s w + 1) (with_row s w new ≡ s) (λ c. Kept s (with_row s w new) w k c)
  takes_kept k q (Ok c) t = (few_here (λ x. x.kept.items) kept_in (λ x. refl) 256 t.0, (row, record { published = row.published; kept = q }, record { was = is_row; rest = refl }, t.1.0, record { kept = t.1.1; published = refl }))
  takes_kept k q (Err f) t = (t.0, many_here (λ x. x.kept.items) kept_in (λ x. refl) 256 t.1, same_row _ (λ i. record { published = row.published; kept = record { items = t.2 i } }))
