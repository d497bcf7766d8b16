use Rattle.std.proofs.Common.{◌≡◌}
use Rattle.instruments.specs.Sheets.{stations_of}
use Rattle.calculus.specs.Calls.{differing, sheet_of}
use Rattle.machine.specs.Answers.{shown}
use Rattle.machine.proofs.Sheeted.{differing_on}
use Rattle.machine.proofs.sheets.differing_site.Given as goal

abbrev pub invariant-loop-site : goal.invariant-loop-site
invariant-loop-site g l =
    differing_on l.stations (shown (g.W.Gauges.readings l.works) (g.W.Works.settings l.works)) l.site ≡ differing (stations_of l.sheet) (sheet_of (shown (g.W.Gauges.readings l.works) (g.W.Works.settings l.works)))
