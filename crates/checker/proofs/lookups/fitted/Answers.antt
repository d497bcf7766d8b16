use Rattle.std.proofs.Common.{sym, ◌∙◌}
use Rattle.instruments.specs.Sheets.{stations_of}
use Rattle.checker.proofs.Counts.{gauges_some, gates_some, none_there}
use Rattle.checker.proofs.lookups.fitted.Goals as goal

pub returns-in-Some-Gauge : goal.returns-in-Some-Gauge
returns-in-Some-Gauge c = rw c.in-Some-Gauge.is-1 (gauges_some (stations_of c.args.sheet.now) c.args.site c.in-Some-Gauge.station (sym c.get.ensures ∙ c.in-Some-Gauge.is-0))

pub returns-in-Some-Gate : goal.returns-in-Some-Gate
returns-in-Some-Gate c = rw c.in-Some-Gate.is-1 (gates_some (stations_of c.args.sheet.now) c.args.site c.in-Some-Gate.station (sym c.get.ensures ∙ c.in-Some-Gate.is-0))

pub returns-in-None-default : goal.returns-in-None-default
returns-in-None-default c = none_there c.args.kind (stations_of c.args.sheet.now) c.args.site (sym c.get.ensures ∙ c.in-None-default.is-0)
