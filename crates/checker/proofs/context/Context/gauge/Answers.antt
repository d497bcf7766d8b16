use Rattle.std.proofs.Common.{sym, refl, ◌∙◌, arith}
use Rattle.instruments.specs.Sheets.{stations_of}
use Rattle.calculus.specs.Types.{num, gauges_there}
use Rattle.calculus.specs.Checker.{typed}
use Rattle.checker.specs.Scopes.{world_of}
use Rattle.checker.proofs.Arms.{row_sizes, registered_goes}
use Rattle.checker.proofs.Steps.{begun, onwards, built_last}
use Rattle.checker.proofs.context.Context.gauge.Goals as goal

pub build-requires : goal.build-requires
build-requires c = omega (arith, c.requires.asks.room, c.requires.asks.few, row_sizes c.requires)

pub returns : goal.returns
returns c =
    let h = c.build.ensures in
    let s = c.args.spot in
    let w0 = onwards (begun c.requires c.args.world) (registered_goes (gauges_there (stations_of s.setting.now.sheet.now)) (world_of c.args.world) c.args.number s.term c.in_ok-register_at.field-0 (typed num) (sym c.register_at.ensures ∙ c.in_ok-register_at.was)) in
    record { judged = record { answer = built_last c.requires.asks.ready w0 tt tt h refl (omega (arith, row_sizes c.requires)) }; same = h.same }
