-- The room that a rule asks for, and how a rule ends.
use Rattle.std.proofs.Common.{◌≡◌, ℕ, zero, suc, ◌+◌, ◌<◌, ◌≤◌, cond, ltb, List, [], ◌∷◌, map, length, get_or, take, Err, sym, refl, ap, ◌∙◌, subst, arith, le-ltb, lt-ltb}
use mathlib.Core.Option.{Option, some, none as nothing, none-ne-some}
use lib.ListN.{get_elem?}
use Rattle.calculus.specs.Machine
use Rattle.calculus.specs.Step.{Works, Event}
use Rattle.calculus.specs.Limits.{Taken, lacking, a_frame, a_binding, two_bindings, a_pair, a_published, a_kept, a_binding_and_kept, no_place}
use Rattle.machine.specs.Store.{published_in, kept_in, published_count, kept_count}
use Rattle.calculus.specs.Tables.{count}
use Rattle.machine.specs.Meaning.{state_of, cells_of, chains_of, sites_of, places_of, published_of, kept_of, value_of, continuation_of, phase_of}
use Rattle.machine.specs.Sound.{StateIn}
use mathlib.Core.HLevel.{is_prop→PathP}
use mathlib.Core.Logic.{∥∥₁_prop}
use Rattle.machine.specs.Answers.{Ends, answered, went, kind}
use Rattle.machine.proofs.Growth.{elem_default}
use Rattle.machine.specs.declared.parts.State.{State}
use Rattle.machine.specs.declared.parts.SiteRow.{SiteRow}
use Rattle.machine.specs.declared.parts.Store.{Store}
use Rattle.lines.specs.declared.refusal.StepFault.{StepFault}
use Rattle.lines.specs.declared.refusal.StepFault.TheVariants.{Full}
use Rattle.lines.specs.declared.refusal.Table.{Table}
use Rattle.machine.proofs.Sound.{sound}

module _ {A : Type 0} where
  pub take_default : (xs : List A) (n i : ℕ) (d : A) → i < n → get_or (take n xs) i d ≡ get_or xs i d
  take_default xs zero i d h = absurd (omega arith)
  take_default [] (suc n) i d h = refl
  take_default (x ∷ xs) (suc n) zero d h = refl
  take_default (x ∷ xs) (suc n) (suc i) d h = take_default xs n i d (omega arith)

pub map_elem : {A B : Type 0} (f : A → B) (xs : List A) (i : ℕ) (x : A) → get_elem? xs i ≡ some x → get_elem? (map f xs) i ≡ some (f x)
map_elem f [] i x e = absurd (none-ne-some x e)
map_elem f (y ∷ xs) zero x e = let q : y ≡ x = cc in ap (λ v. some (f v)) q
map_elem f (y ∷ xs) (suc i) x e = map_elem f xs i x e

pub map_length : {A B : Type 0} (f : A → B) (xs : List A) → length (map f xs) ≡ length xs
map_length f [] = refl
map_length f (y ∷ xs) = ap suc (map_length f xs)

-- the entries of a site, by its row
pub site_row : {A : Type 0} (f : SiteRow → List A) (rows : List SiteRow) (n w : ℕ) (r : SiteRow) → w < n → get_elem? rows w ≡ some r → get_or (take n (map f rows)) w [] ≡ f r
site_row f rows n w r h e = take_default (map f rows) n w [] h ∙ elem_default (map f rows) w (f r) [] (map_elem f rows w r e)

module _ (t : Taken) (H : Machine.Sites) (w : ℕ) (k : Machine.Continuation) (p : Machine.Phase) (c : Machine.Places) where
  abbrev short5 : Option ℕ
  short5 = cond (ltb 256 (count H.kept w + t.kept)) (some 5) nothing

  abbrev short4 : Option ℕ
  short4 = cond (ltb 128 (count H.published w + t.published)) (some 4) short5

  abbrev short3 : Option ℕ
  short3 = cond (ltb 2048 (c.pairs + t.pairs)) (some 3) short4

  abbrev short2 : Option ℕ
  short2 = cond (ltb 4096 (c.bindings + t.bindings)) (some 2) short3

  pub lacks_frames : 4096 < c.frames + t.frames → lacking t (Machine.state H w k p c) ≡ some 1
  lacks_frames h = ap (λ b. cond b (some 1) short2) (lt-ltb 4096 (c.frames + t.frames) h)

  module _ (a : c.frames + t.frames ≤ 4096) where
    on1 : lacking t (Machine.state H w k p c) ≡ short2
    on1 = ap (λ b. cond b (some 1) short2) (le-ltb 4096 (c.frames + t.frames) a)

    pub lacks_bindings : 4096 < c.bindings + t.bindings → lacking t (Machine.state H w k p c) ≡ some 2
    lacks_bindings h = on1 ∙ ap (λ b. cond b (some 2) short3) (lt-ltb 4096 (c.bindings + t.bindings) h)

    module _ (b : c.bindings + t.bindings ≤ 4096) where
      on2 : lacking t (Machine.state H w k p c) ≡ short3
      on2 = on1 ∙ ap (λ x. cond x (some 2) short3) (le-ltb 4096 (c.bindings + t.bindings) b)

      pub lacks_pairs : 2048 < c.pairs + t.pairs → lacking t (Machine.state H w k p c) ≡ some 3
      lacks_pairs h = on2 ∙ ap (λ x. cond x (some 3) short4) (lt-ltb 2048 (c.pairs + t.pairs) h)

      module _ (d : c.pairs + t.pairs ≤ 2048) where
        on3 : lacking t (Machine.state H w k p c) ≡ short4
        on3 = on2 ∙ ap (λ x. cond x (some 3) short4) (le-ltb 2048 (c.pairs + t.pairs) d)

        pub lacks_published : 128 < count H.published w + t.published → lacking t (Machine.state H w k p c) ≡ some 4
        lacks_published h = on3 ∙ ap (λ x. cond x (some 4) short5) (lt-ltb 128 (count H.published w + t.published) h)

        module _ (e : count H.published w + t.published ≤ 128) where
          on4 : lacking t (Machine.state H w k p c) ≡ short5
          on4 = on3 ∙ ap (λ x. cond x (some 4) short5) (le-ltb 128 (count H.published w + t.published) e)

          pub lacks_kept : 256 < count H.kept w + t.kept → lacking t (Machine.state H w k p c) ≡ some 5
          lacks_kept h = on4 ∙ ap (λ x. cond x (some 5) nothing) (lt-ltb 256 (count H.kept w + t.kept) h)

          pub lacks_none : count H.kept w + t.kept ≤ 256 → lacking t (Machine.state H w k p c) ≡ nothing
          lacks_none h = on4 ∙ ap (λ x. cond x (some 5) nothing) (le-ltb 256 (count H.kept w + t.kept) h)

-- the row of the site where work stands
pub row_here : (s : State) → (r : SiteRow) × (get_elem? s.store.rows s.site ≡ some r)
row_here s = go s.store.rows s.site (let a = (sound s).store_in.rows_are in let b = (sound s).site_in in let c = (sound s).stations_few in omega arith)
  where
    go : (rs : List SiteRow) (w : ℕ) → w < length rs → (r : SiteRow) × (get_elem? rs w ≡ some r)
    go [] w l = absurd (omega arith)
    go (r ∷ rs) zero l = (r, refl)
    go (r ∷ rs) (suc w) l = go rs w (omega arith)

-- how many entries the site has where work stands
pub published_here : (s : State) (r : SiteRow) → get_elem? s.store.rows s.site ≡ some r → count (sites_of s).published s.site ≡ length r.published.items
published_here s r e = ap length (site_row (published_of (cells_of s)) s.store.rows s.stations s.site r (sound s).site_in e) ∙ map_length (value_of (cells_of s)) r.published.items

pub kept_here : (s : State) (r : SiteRow) → get_elem? s.store.rows s.site ≡ some r → count (sites_of s).kept s.site ≡ length r.kept.items
kept_here s r e = ap length (site_row (kept_of (chains_of s)) s.store.rows s.stations s.site r (sound s).site_in e) ∙ map_length (continuation_of (chains_of s)) r.kept.items

pub published_few : (s : State) → count (sites_of s).published s.site ≤ 128
published_few s = let r = row_here s in let e = published_here s r.0 r.1 in let f = ((sound s).store_in.rows_in s.site r.0 r.1).published_few in omega arith

pub kept_few : (s : State) → count (sites_of s).kept s.site ≤ 256
kept_few s = let r = row_here s in let e = kept_here s r.0 r.1 in let f = ((sound s).store_in.rows_in s.site r.0 r.1).kept_few in omega arith

-- a rule that has its places
pub goes_on : (u : Works) (M L : Machine.State) (e : Event) (l : Option ℕ) → l ≡ nothing → M ≡ L → answered (Machine.stepped L u e) l ≡ went M u
goes_on u M L e l none q = ap (answered (Machine.stepped L u e)) none ∙ ap (λ K. went K u) (sym q)

-- a rule that lacks them
pub ends_full : (s t : State) (v u : Works) (L : Machine.State) (e : Event) (l : Option ℕ) (f : StepFault) (k : Table) → t ≡ s → f ≡ Full k → l ≡ some (kind k) → Ends {U = Unit {0}} (Err f) s t v v (answered (Machine.stepped L u e) l)
ends_full s t v u L e l f k te fe le = subst (λ x. Ends {U = Unit {0}} (Err x) s t v v (answered (Machine.stepped L u e) l)) (sym fe) (te, refl, ap (answered (Machine.stepped L u e)) le)

-- a state whose tables are as they were
pub store_same : (s : State) (t : Store) (e : t ≡ s.store) (h : ∥ StateIn s.stations s.site s.continuation s.phase t ∥₁) → ◌≡◌ {A = State} (record { stations = s.stations; site = s.site; continuation = s.continuation; phase = s.phase; store = t; sound = h }) s
store_same s t e h = λ i. record { stations = s.stations; site = s.site; continuation = s.continuation; phase = s.phase; store = e i; sound = is_prop→PathP (λ i. ∥ StateIn s.stations s.site s.continuation s.phase (e i) ∥₁) (λ i. ∥∥₁_prop) h s.sound i }

-- the room tests of the site where work stands
pub published_counted : (s : State) → published_count s.store s.site ≡ count (sites_of s).published s.site
published_counted s = let r = row_here s in ap published_in r.1 ∙ sym (published_here s r.0 r.1)

pub kept_counted : (s : State) → kept_count s.store s.site ≡ count (sites_of s).kept s.site
kept_counted s = let r = row_here s in ap kept_in r.1 ∙ sym (kept_here s r.0 r.1)

module _ (s : State) where
  abbrev k : Machine.Continuation
  k = continuation_of (chains_of s) s.continuation

  abbrev p : Machine.Phase
  p = phase_of (cells_of s) s.phase

  -- the tables have room for what is asked of one, since they are within their limits
  pub room_for : (t : Taken) → length s.store.frames.items + t.frames ≤ 4096 → s.store.bindings + t.bindings ≤ 4096 → s.store.pairs + t.pairs ≤ 2048 → count (sites_of s).published s.site + t.published ≤ 128 → count (sites_of s).kept s.site + t.kept ≤ 256 → lacking t (state_of s) ≡ nothing
  room_for t a b d e f = lacks_none t (sites_of s) s.site k p (places_of s) a b d e f

  pub fits_none : lacking no_place (state_of s) ≡ nothing
  fits_none =
      let T = (sound s).store_in in let x = T.frames_few in let y = T.bindings_few in let z = T.pairs_few in let u = published_few s in let w = kept_few s in
      room_for no_place (omega arith) (omega arith) (omega arith) (omega arith) (omega arith)

  pub fits_frame : length s.store.frames.items + 1 ≤ 4096 → lacking a_frame (state_of s) ≡ nothing
  fits_frame few =
      let T = (sound s).store_in in let y = T.bindings_few in let z = T.pairs_few in let u = published_few s in let w = kept_few s in
      room_for a_frame few (omega arith) (omega arith) (omega arith) (omega arith)

  pub lack_frame : 4096 < length s.store.frames.items + 1 → lacking a_frame (state_of s) ≡ some 1
  lack_frame many = lacks_frames a_frame (sites_of s) s.site k p (places_of s) many

  pub fits_binding : s.store.bindings + 1 ≤ 4096 → lacking a_binding (state_of s) ≡ nothing
  fits_binding few =
      let T = (sound s).store_in in let x = T.frames_few in let z = T.pairs_few in let u = published_few s in let w = kept_few s in
      room_for a_binding (omega arith) few (omega arith) (omega arith) (omega arith)

  pub fits_two : s.store.bindings + 2 ≤ 4096 → lacking two_bindings (state_of s) ≡ nothing
  fits_two few =
      let T = (sound s).store_in in let x = T.frames_few in let z = T.pairs_few in let u = published_few s in let w = kept_few s in
      room_for two_bindings (omega arith) few (omega arith) (omega arith) (omega arith)

  pub fits_pair : s.store.pairs + 1 ≤ 2048 → lacking a_pair (state_of s) ≡ nothing
  fits_pair few =
      let T = (sound s).store_in in let x = T.frames_few in let y = T.bindings_few in let u = published_few s in let w = kept_few s in
      room_for a_pair (omega arith) (omega arith) few (omega arith) (omega arith)

  pub fits_published : published_count s.store s.site + 1 ≤ 128 → lacking a_published (state_of s) ≡ nothing
  fits_published few =
      let T = (sound s).store_in in let x = T.frames_few in let y = T.bindings_few in let z = T.pairs_few in let q = published_counted s in let w = kept_few s in
      room_for a_published (omega arith) (omega arith) (omega arith) (omega arith) (omega arith)

  pub lack_published : 128 < published_count s.store s.site + 1 → lacking a_published (state_of s) ≡ some 4
  lack_published many =
      let T = (sound s).store_in in let x = T.frames_few in let y = T.bindings_few in let z = T.pairs_few in let q = published_counted s in
      lacks_published a_published (sites_of s) s.site k p (places_of s) (omega arith) (omega arith) (omega arith) (omega arith)

  pub fits_kept : kept_count s.store s.site + 1 ≤ 256 → lacking a_kept (state_of s) ≡ nothing
  fits_kept few =
      let T = (sound s).store_in in let x = T.frames_few in let y = T.bindings_few in let z = T.pairs_few in let q = kept_counted s in let w = published_few s in
      room_for a_kept (omega arith) (omega arith) (omega arith) (omega arith) (omega arith)

  pub lack_kept : 256 < kept_count s.store s.site + 1 → lacking a_kept (state_of s) ≡ some 5
  lack_kept many =
      let T = (sound s).store_in in let x = T.frames_few in let y = T.bindings_few in let z = T.pairs_few in let q = kept_counted s in let w = published_few s in
      lacks_kept a_kept (sites_of s) s.site k p (places_of s) (omega arith) (omega arith) (omega arith) (omega arith) (omega arith)

  pub fits_binding_and_kept : s.store.bindings + 1 ≤ 4096 → kept_count s.store s.site + 1 ≤ 256 → lacking a_binding_and_kept (state_of s) ≡ nothing
  fits_binding_and_kept few fewer =
      let T = (sound s).store_in in let x = T.frames_few in let z = T.pairs_few in let q = kept_counted s in let w = published_few s in
      room_for a_binding_and_kept (omega arith) few (omega arith) (omega arith) (omega arith)

  pub lack_binding_and_kept : s.store.bindings + 1 ≤ 4096 → 256 < kept_count s.store s.site + 1 → lacking a_binding_and_kept (state_of s) ≡ some 5
  lack_binding_and_kept few many =
      let T = (sound s).store_in in let x = T.frames_few in let z = T.pairs_few in let q = kept_counted s in let w = published_few s in
      lacks_kept a_binding_and_kept (sites_of s) s.site k p (places_of s) (omega arith) few (omega arith) (omega arith) (omega arith)
