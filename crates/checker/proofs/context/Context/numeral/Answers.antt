use Rattle.std.proofs.Common.{refl, arith}
use Rattle.checker.proofs.Arms.{row_sizes}
use Rattle.checker.proofs.Steps.{begun, built_last}
use Rattle.checker.proofs.context.Context.numeral.Goals as goal

pub build-requires : goal.build-requires
build-requires c = omega (arith, c.requires.asks.room, c.requires.asks.few, row_sizes c.requires)

pub returns : goal.returns
returns c =
    let h = c.build.ensures in
    record { judged = record { answer = built_last c.requires.asks.ready (begun c.requires c.args.world) tt tt h refl (omega (arith, row_sizes c.requires)) }; same = h.same }
