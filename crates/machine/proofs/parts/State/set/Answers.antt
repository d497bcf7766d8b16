use Rattle.std.proofs.Common.{sym, refl, ap, ◌∙◌, subst}
use Rattle.std.proofs.lemmas.Result.{err_from_is_err_and}
use Rattle.calculus.specs.Machine
use Rattle.calculus.specs.Step.{quiet, was_set}
use Rattle.calculus.specs.Limits.{lacking, no_place}
use Rattle.machine.specs.Meaning.{state_of, sites_of, places_of}
use Rattle.machine.specs.Answers.{Goes, Lands, Met, answered, shown, held, over, gated}
use Rattle.machine.proofs.Sorts.{is_number_then, wants_number}
use Rattle.machine.proofs.Asks.{done_err, done_ok, set_none, set_put}
use Rattle.machine.proofs.Evaluating.{gate_silent, gate_shown, fault_of, answer_of}
use Rattle.machine.proofs.Looks.{event_goes}
use Rattle.lines.specs.declared.refusal.Instrument.TheVariants.{Gate}
use Rattle.machine.proofs.Sound.{sound}
use Rattle.machine.proofs.parts.State.set.Goals as goal

pub unreachable-requires : goal.unreachable-requires
unreachable-requires g c = is_number_then c.args.self.now.store.cells.items (sound c.args.self.now).store_in.cells_in c.args.value c.requires.work.0 (wants_number c.args.self.now.stations (held c.args.self.now c.args.value) _ c.requires.live) c.in_default.not-Number

pub returns-in_err-set_gate : goal.returns-in_err-set_gate
returns-in_err-set_gate g c =
    let s = c.args.self.now in
    let v = shown (g.W.Gauges.readings c.args.works.now) (g.W.Works.settings c.args.works.now) in
    let l = lacking no_place (state_of s) in
    let n = c.in-Number.number in
    let f = fault_of Gate c.in_err-set_gate.field-0.0 _ c.in_err-set_gate.ensures.value in
    let asks = done_err _ f.0 f.1 in
    let b = err_from_is_err_and c.from_residual.result c.from_residual.ensures.1 in
    let number = ap (λ x. gated v s c.args.next x c.args.gate) c.in-Number.is in
    let live = subst (Lands s.stations) number c.requires.live in
    let m = gate_silent v s c.args.next c.args.gate n f.0 l live asks in
    let m2 = subst (λ u. Met u (answered (gated v s c.args.next c.args.value c.args.gate) l)) (sym f.2) (subst (λ o. Met (record { instrument = Gate; fault = f.0 }) (answered o l)) (sym number) m) in
    let gates = c.set_gate.ensures.after ∙ set_none v.gates s.site c.args.gate n f.0 asks in
    rw (b.1, b.2) (refl, (λ i. shown (c.set_gate.ensures.same i) (gates i)), m2)

pub returns : goal.returns
returns g c =
    let s = c.args.self.now in
    let v = shown (g.W.Gauges.readings c.args.works.now) (g.W.Works.settings c.args.works.now) in
    let u = shown (g.W.Gauges.readings c.set_gate.new.works) (g.W.Works.settings c.set_gate.new.works) in
    let n = c.in-Number.number in
    let w = c.args.gate in
    let old = done_ok _ (answer_of Gate tt _ c.in_ok-set_gate.ensures.value) in
    let e = gate_shown v s c.args.next w n old.0 old.1 in
    let gates = c.set_gate.ensures.after ∙ set_put v.gates s.site w n old.0 old.1 in
    let t = c.go_on.new.self in
    let L = Machine.state (sites_of s) s.site (over s c.args.next) (Machine.back (Machine.number n)) (places_of s) in
    let k = event_goes s t u L quiet (was_set s.site w n s.site) _ (c.go_on.ensures u) in
    let path =
    ap (λ x. gated v s c.args.next x w) c.in-Number.is
    ∙ ap (λ o. Machine.gate_set v (sites_of s) s.site (places_of s) (over s c.args.next) w n o) e
    ∙ (λ i. Machine.stepped L (shown (sym c.set_gate.ensures.same i) (sym gates i)) (was_set s.site w n s.site)) in
    subst (λ o. Goes s t u (answered o (lacking no_place (state_of s)))) (sym path) k
