use Rattle.std.proofs.Common.{take}
use Rattle.lines.specs.Writing.{Took}
use Rattle.instruments.specs.Surveys.{sites_text}
use Rattle.instruments.proofs.survey.GaugeLinesPrinted.put.Given as goal

abbrev pub invariant-loop-site : goal.invariant-loop-site
invariant-loop-site g l = Took l.initial.pen (sites_text 0 (take l.site (g.G.Gauges.readings l.self.0.now))) l.pen
