use Rattle.std.proofs.Common.{length, Some, sym, ap, ◌∙◌, subst}
use Rattle.calculus.specs.Machine
use Rattle.calculus.specs.Step.{quiet, looked}
use Rattle.calculus.specs.Limits.{lacking, no_place}
use Rattle.machine.specs.Meaning.{cells_of, state_of, sites_of, places_of}
use Rattle.machine.specs.Sound.{BoundIn}
use Rattle.machine.specs.Lookups.{found_of}
use Rattle.machine.specs.Answers.{Goes, Lands, answered, valued, over}
use Rattle.machine.proofs.Looks.{dark, un_value, published_read, published_missing, event_goes}
use Rattle.machine.proofs.Sound.{sound, continuation_sound, site_sound}
use Rattle.machine.proofs.parts.State.value.Goals as goal

pub unreachable-requires : goal.unreachable-requires
unreachable-requires c =
    let s = c.args.self.now in
    subst (λ f. Lands s.stations (valued dark s f)) (un_value c.in_default.ensures.found) (c.requires.live dark)

pub go_on-requires : goal.go_on-requires
go_on-requires c = let cs = c.args.self.now.store.cells.items in (subst (BoundIn cs (length cs)) c.in-Value.is c.in-Some.ensures.within, continuation_sound c.args.self.now)

pub published-requires : goal.published-requires
published-requires c = site_sound c.args.self.now

pub unreachable-requires-in-None : goal.unreachable-requires-in-None
unreachable-requires-in-None c =
    let s = c.args.self.now in
    let p = c.in-None.ensures in
    let found = un_value c.in-Some.ensures.found ∙ ap (λ b. found_of (cells_of s) (Some b)) c.in-Label.is in
    let e = published_missing s s.site (sound s).site_in p.0 p.1 c.in-Label.label p.2 in
    let live = subst (λ f. Lands s.stations (valued dark s f)) found (c.requires.live dark) in
    subst (λ o. Lands s.stations (Machine.looked_up dark (sites_of s) s.site (places_of s) (over s s.continuation) c.in-Label.site c.in-Label.label o)) e live

pub unreachable-requires-in-World : goal.unreachable-requires-in-World
unreachable-requires-in-World c =
    let s = c.args.self.now in
    let found = un_value c.in-Some.ensures.found ∙ ap (λ b. found_of (cells_of s) (Some b)) c.in-World.is in
    subst (λ f. Lands s.stations (valued dark s f)) found (c.requires.live dark)

pub unreachable-requires-in-Continuation : goal.unreachable-requires-in-Continuation
unreachable-requires-in-Continuation c =
    let s = c.args.self.now in
    let found = un_value c.in-Some.ensures.found ∙ ap (λ b. found_of (cells_of s) (Some b)) c.in-Continuation.is in
    subst (λ f. Lands s.stations (valued dark s f)) found (c.requires.live dark)

pub returns-in-Value : goal.returns-in-Value
returns-in-Value c v =
    let s = c.args.self.now in
    let found = un_value c.in-Some.ensures.found ∙ ap (λ b. found_of (cells_of s) (Some b)) c.in-Value.is in
    subst (λ f. Goes s c.go_on.new.self v (answered (valued v s f) (lacking no_place (state_of s)))) (sym found) (c.go_on.ensures v)

pub go_on-requires-in-Some-published : goal.go_on-requires-in-Some-published
go_on-requires-in-Some-published c =
    let s = c.args.self.now in
    let p = c.in-Some-published.ensures in
    (((sound s).store_in.rows_in s.site p.0 p.1).published_in c.in-Label.label c.in-Some-published.value (sym p.2), (sound s).work_in.1)

pub returns-in-Some-published : goal.returns-in-Some-published
returns-in-Some-published c v =
    let s = c.args.self.now in
    let p = c.in-Some-published.ensures in
    let found = un_value c.in-Some.ensures.found ∙ ap (λ b. found_of (cells_of s) (Some b)) c.in-Label.is in
    let e = published_read s s.site (sound s).site_in p.0 p.1 c.in-Label.label c.in-Some-published.value p.2 in
    let t = c.go_on-in-Some-published.new.self in
    let g = event_goes s t v _ quiet (looked c.in-Label.site c.in-Label.label s.site) _ (c.go_on-in-Some-published.ensures v) in
    let look = subst (λ o. Goes s t v (answered (Machine.looked_up v (sites_of s) s.site (places_of s) (over s s.continuation) c.in-Label.site c.in-Label.label o) (lacking no_place (state_of s)))) (sym e) g in
    subst (λ f. Goes s t v (answered (valued v s f) (lacking no_place (state_of s)))) (sym found) look
