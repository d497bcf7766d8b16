use Rattle.std.proofs.Common.{take}
use Rattle.lines.specs.Writing.{Took}
use Rattle.instruments.specs.Registers.{site_row}
use Rattle.instruments.specs.Surveys.{site_text}
use Rattle.instruments.proofs.survey.GaugeLines.put_site.Given as goal

abbrev pub invariant-loop-number : goal.invariant-loop-number
invariant-loop-number g l = Took l.initial.pen (site_text l.site 0 (take l.number (site_row (g.G.Gauges.readings l.self.0.now) l.site))) l.pen
