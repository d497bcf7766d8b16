use Rattle.std.proofs.Common.{sym, ◌∙◌}
use Rattle.machine.specs.Meaning.{state_of}
use Rattle.machine.specs.Answers.{shown}
use Rattle.machine.proofs.parts.State.step_marked.Goals as goal

pub mark_touched-requires-clause-fits : goal.mark_touched-requires-clause-fits
mark_touched-requires-clause-fits g c =
    let v = shown (g.W.Gauges.readings c.args.works.now) (g.W.Works.settings c.args.works.now) in
    let w = c.args.self.now.site in
    c.touched-touched.ensures.fits v ((g.met.W.Gauges.few c.args.works.now).1 w) ((g.met.W.Works.fewer c.args.works.now).1 w) c.requires.live

pub returns-clause-marks : goal.returns-clause-marks
returns-clause-marks g c =
    let v = shown (g.W.Gauges.readings c.args.works.now) (g.W.Works.settings c.args.works.now) in
    let u = shown (g.W.Gauges.readings c.step.new.works) (g.W.Works.settings c.step.new.works) in
    let q = c.in_ok-step.ensures in
    c.mark_touched.ensures ∙ sym (c.touched-touched.ensures.marks v (state_of c.step.new.self) u q.1 c.args.marks.now)
