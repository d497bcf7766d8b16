use Rattle.std.proofs.Common.{ap, ◌∙◌}
use Rattle.calculus.specs.Marks.{marks_set}
use Rattle.machine.proofs.marks.Marks.count.Goals as goal

pub returns : goal.returns
returns c = c.ones.ensures ∙ ap marks_set c.self.view_is
