-- A sheet against what a works has.
use Rattle.std.specs.Prelude.{ℕ, Bool, ◌&&◌, length, ◌==◌, nat_lt}
use Rattle.instruments.specs.declared.sheet.Station.{Station}
use Rattle.calculus.specs.Tables.{count}
use Rattle.calculus.specs.Step.{Works}

-- whether the works has that site, with as many gauges and gates as the station says
abbrev pub has_station : Works → ℕ → Station → Bool
has_station v s x = nat_lt s (length v.gauges) && (x.gauges == count v.gauges s && x.gates == count v.gates s)
