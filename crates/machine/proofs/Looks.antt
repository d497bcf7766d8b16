-- The rules that only look something up.
use Rattle.std.proofs.Common.{◌≡◌, ℕ, zero, suc, ◌<◌, true, List, [], ◌∷◌, map, get_or, take, sym, refl, ap, ◌∙◌, arith}
use mathlib.Core.Option.{some, none as nothing, none-ne-some}
use lib.ListN.{get_elem?}
use Rattle.calculus.specs.Machine
use Rattle.machine.specs.Meaning.{value_of, continuation_of, phase_of, published_of, kept_of, cells_of, chains_of, sites_of, places_of, state_of}
use Rattle.machine.specs.Answers.{over, held}
use Rattle.machine.specs.declared.parts.Value.{Value}
use Rattle.machine.specs.declared.parts.Continuation.{Continuation}
use Rattle.machine.specs.declared.parts.Phase.{Phase}
use Rattle.machine.specs.declared.parts.SiteRow.{SiteRow}
use Rattle.machine.specs.declared.parts.State.{State}
use mathlib.Core.Option.{Option}
use Rattle.calculus.specs.Tables.{entry}
use Rattle.calculus.specs.Step.{Works, Event, quiet}
use Rattle.calculus.specs.Limits.{lacking, no_place}
use Rattle.machine.specs.Answers.{answered, went, Goes, is_some, going, resuming}
use Rattle.machine.specs.Lookups.{a_value}
use Rattle.machine.proofs.Room.{site_row, map_elem, fits_none}

-- a works that shows nothing
abbrev pub dark : Works
dark = record { gauges = []; gates = [] }

pub un_value : {f g : Machine.Found} → a_value f ≡ a_value g → f ≡ g
un_value e = cc

-- an answer does not name the event
pub event_free : (L : Machine.State) (v : Works) (d e : Event) (l : Option ℕ) → answered (Machine.stepped L v d) l ≡ answered (Machine.stepped L v e) l
event_free L v d e nothing = refl
event_free L v d e (some k) = refl

map_none : {A B : Type 0} (f : A → B) (xs : List A) (i : ℕ) → get_elem? xs i ≡ nothing → get_elem? (map f xs) i ≡ nothing
map_none f [] i e = refl
map_none f (x ∷ xs) zero e = absurd (none-ne-some x (sym e))
map_none f (x ∷ xs) (suc i) e = map_none f xs i e

within_take : {A : Type 0} (xs : List (List A)) (n w c : ℕ) → is_some (get_elem? (get_or (take n xs) w []) c) ≡ true → w < n
within_take xs zero w c e = absurd (grind arith)
within_take [] (suc n) w c e = absurd (grind arith)
within_take (x ∷ xs) (suc n) zero c e = omega arith
within_take (x ∷ xs) (suc n) (suc w) c e = let h = within_take xs n w c e in omega arith

module _ (s : State) where
  -- a kept continuation is kept at a site that there is
  pub kept_within : (w c : ℕ) → is_some (entry (sites_of s).kept w c) ≡ true → w < s.stations
  kept_within w c e = within_take (map (kept_of (chains_of s)) s.store.rows) s.stations w c e

  module _ (w : ℕ) (l : w < s.stations) (r : SiteRow) (was : get_elem? s.store.rows w ≡ some r) (c : ℕ) where
    pub kept_read : (k : Continuation) → some k ≡ get_elem? r.kept.items c → entry (sites_of s).kept w c ≡ some (over s k)
    kept_read k e = ap (λ x. get_elem? x c) (site_row (kept_of (chains_of s)) s.store.rows s.stations w r l was) ∙ map_elem (continuation_of (chains_of s)) r.kept.items c k (sym e)

    pub kept_missing : nothing ≡ get_elem? r.kept.items c → entry (sites_of s).kept w c ≡ nothing
    kept_missing e = ap (λ x. get_elem? x c) (site_row (kept_of (chains_of s)) s.store.rows s.stations w r l was) ∙ map_none (continuation_of (chains_of s)) r.kept.items c (sym e)

    pub published_read : (v : Value) → some v ≡ get_elem? r.published.items c → entry (sites_of s).published w c ≡ some (held s v)
    published_read v e = ap (λ x. get_elem? x c) (site_row (published_of (cells_of s)) s.store.rows s.stations w r l was) ∙ map_elem (value_of (cells_of s)) r.published.items c v (sym e)

    pub published_missing : nothing ≡ get_elem? r.published.items c → entry (sites_of s).published w c ≡ nothing
    published_missing e = ap (λ x. get_elem? x c) (site_row (published_of (cells_of s)) s.store.rows s.stations w r l was) ∙ map_none (value_of (cells_of s)) r.published.items c (sym e)

  pub go_goes : (next : Continuation) (p : Phase) (v : Works) → going v s next p ≡ went (Machine.state (sites_of s) s.site (over s next) (phase_of (cells_of s) p) (places_of s)) v
  go_goes next p v = ap (answered (Machine.next v (sites_of s) s.site (places_of s) (over s next) (phase_of (cells_of s) p))) (fits_none s)

  pub resume_goes : (w c : ℕ) (k : Continuation) (p : Phase) (v : Works) → entry (sites_of s).kept w c ≡ some (over s k) → resuming v s w c p ≡ went (Machine.state (sites_of s) w (over s k) (phase_of (cells_of s) p) (places_of s)) v
  resume_goes w c k p v e =
      ap (λ o. answered (Machine.resume v (sites_of s) s.site (places_of s) w (phase_of (cells_of s) p) o) (lacking no_place (state_of s))) e
      ∙ ap (answered (Machine.stepped (Machine.state (sites_of s) w (over s k) (phase_of (cells_of s) p) (places_of s)) v quiet)) (fits_none s)

  -- a step over another event goes the same way
  pub event_goes : (t : State) (v : Works) (L : Machine.State) (d e : Event) (l : Option ℕ) → Goes s t v (answered (Machine.stepped L v d) l) → Goes s t v (answered (Machine.stepped L v e) l)
  event_goes t v L d e l g = (g.0, event_free L v e d l ∙ g.1)
