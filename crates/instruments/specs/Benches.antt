-- What a bench shows.
use Rattle.std.specs.Prelude.{ℕ, List, map, replicate, None, Option}
use Rattle.instruments.specs.Items.{items_of}
use Rattle.instruments.specs.declared.sheet.Station.{Station}
use Rattle.instruments.specs.declared.bench.Bank.{Bank}
use Rattle.instruments.specs.declared.bench.Banks.{Banks}
use Rattle.instruments.specs.declared.bench.Bench.{Bench}
use Rattle.instruments.specs.Registers.{Shown}

-- the registers of a bank that are fitted
abbrev pub fitted : Bank → List (Option ℕ)
fitted b = items_of b.registers

abbrev pub fitted_gauges : Banks → List (Option ℕ)
fitted_gauges s = fitted s.gauges

abbrev pub fitted_gates : Banks → List (Option ℕ)
fitted_gates s = fitted s.gates

abbrev pub bench_gauges : Bench → Shown
bench_gauges b = map fitted_gauges (items_of b.sites)

abbrev pub bench_gates : Bench → Shown
bench_gates b = map fitted_gates (items_of b.sites)

-- the registers of a site where all are silent
abbrev pub silent_gauges : Station → List (Option ℕ)
silent_gauges s = replicate s.gauges None

abbrev pub silent_gates : Station → List (Option ℕ)
silent_gates s = replicate s.gates None
