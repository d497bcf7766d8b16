use Rattle.std.proofs.Common.{take}
use Rattle.lines.specs.Writing.{Took}
use Rattle.syntax.specs.Place.{tables}
use Rattle.syntax.specs.Spelt.{station_lines}
use Rattle.syntax.proofs.table.Program.put_stations.Given as goal

abbrev pub invariant-loop-station : goal.invariant-loop-station
invariant-loop-station l = Took l.initial.pen (station_lines (take l.station-index (tables l.self).stations)) l.pen
