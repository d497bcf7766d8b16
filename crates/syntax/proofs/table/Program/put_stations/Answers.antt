use Rattle.std.proofs.Common.{◌+◌, ◌<◌, length, get_or, drop, arith}
use Rattle.std.proofs.lemmas.List.{take_all}
use Rattle.lines.proofs.Pieces.{begins, then, took_then, stops}
use Rattle.instruments.specs.declared.sheet.Station.{Station}
use Rattle.syntax.specs.Place.{tables}
use Rattle.syntax.specs.Spelt.{station_line, station_lines}
use Rattle.syntax.proofs.Spells.{lines_cut, lines_more}
use Rattle.syntax.proofs.table.Program.put_stations.Goals as goal

abbrev none : Station
none = record { gauges = 0; gates = 0 }

pub loop-station-init : goal.loop-station-init
loop-station-init c = begins c.args.pen.now

pub returns-in_err-put_station : goal.returns-in_err-put_station
returns-in_err-put_station c =
    let xs = (tables c.args.self.now).stations in
    let i = c.loop-station.station-index in
    rw (lines_cut xs i none (rw c.stations-station-items.ensures at c.loop-station-test.true))
    (then c.loop-station.invariant (stops (station_line (get_or xs i none)) (station_lines (drop (i + 1) xs)) c.from_residual.ensures.0 (rw c.stations-station-items.ensures at c.in_err-put_station.ensures.ended)))

pub loop-station-preserved : goal.loop-station-preserved
loop-station-preserved c =
    rw (lines_more (tables c.args.self.now).stations c.loop-station.station-index none (rw c.stations-station-items.ensures at c.loop-station-test.true)) (took_then c.loop-station.invariant (rw c.stations-station-items.ensures at c.in_ok-put_station.ensures.ended))

pub returns : goal.returns
returns c =
    record { ended = rw (take_all c.loop-station.station-index (tables c.args.self.now).stations (rw c.stations-station-items.ensures at c.loop-station-test.false)) at c.loop-station.invariant }
