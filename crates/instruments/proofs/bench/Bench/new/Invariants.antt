use Rattle.std.proofs.Common.{◌≡◌, map, take}
use Rattle.instruments.specs.Items.{items_of}
use Rattle.instruments.specs.Sheets.{stations_of}
use Rattle.instruments.specs.Benches.{fitted_gauges, fitted_gates, silent_gauges, silent_gates}
use Rattle.instruments.proofs.bench.Bench.new.Given as goal

abbrev pub invariant-loop-station : goal.invariant-loop-station
invariant-loop-station l = record {
  gauges : map fitted_gauges (items_of l.sites) ≡ map silent_gauges (take l.station-index (stations_of l.sheet));
  gates : map fitted_gates (items_of l.sites) ≡ map silent_gates (take l.station-index (stations_of l.sheet));
}
