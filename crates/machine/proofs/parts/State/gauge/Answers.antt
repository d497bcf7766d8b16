use Rattle.std.proofs.Common.{sym, refl, subst}
use Rattle.std.proofs.lemmas.Result.{err_from_is_err_and}
use Rattle.calculus.specs.Machine
use Rattle.calculus.specs.Step.{quiet, was_read}
use Rattle.calculus.specs.Limits.{lacking, no_place}
use Rattle.machine.specs.Meaning.{state_of, sites_of, places_of}
use Rattle.machine.specs.Answers.{Goes, Met, answered, shown, gauged, over}
use Rattle.lines.specs.declared.refusal.Instrument.TheVariants.{Gauge}
use Rattle.machine.proofs.Evaluating.{gauge_silent, gauge_shown, fault_of, answer_of}
use Rattle.machine.proofs.Looks.{event_goes}
use Rattle.machine.proofs.Sound.{continuation_sound}
use Rattle.machine.proofs.parts.State.gauge.Goals as goal

pub go_on-requires : goal.go_on-requires
go_on-requires g c = (tt, continuation_sound c.args.self.now)

pub returns-in_err-reading : goal.returns-in_err-reading
returns-in_err-reading g c =
    let s = c.args.self.now in
    let v = shown (g.W.Gauges.readings c.args.works.now) (g.W.Works.settings c.args.works.now) in
    let l = lacking no_place (state_of s) in
    let f = fault_of Gauge c.in_err-reading.field-0.0 _ c.in_err-reading.ensures in
    let b = err_from_is_err_and c.from_residual.result c.from_residual.ensures.1 in
    let m = subst (λ u. Met u (answered (gauged v s c.args.number) l)) (sym f.2) (gauge_silent v s c.args.number f.0 l c.requires.live f.1) in
    rw (b.1, b.2) (refl, refl, m)

pub returns : goal.returns
returns g c =
    let s = c.args.self.now in
    let v = shown (g.W.Gauges.readings c.args.works.now) (g.W.Works.settings c.args.works.now) in
    let e = gauge_shown v s c.args.number c.in_ok-reading.reading (answer_of Gauge c.in_ok-reading.reading _ c.in_ok-reading.ensures) in
    let t = c.go_on.new.self in
    let k = event_goes s t v _ quiet (was_read s.site c.args.number s.site) _ (c.go_on.ensures v) in
    subst (λ o. Goes s t v (answered (Machine.gauge_shows v (sites_of s) s.site (places_of s) (over s s.continuation) c.args.number o) (lacking no_place (state_of s)))) (sym e) k
