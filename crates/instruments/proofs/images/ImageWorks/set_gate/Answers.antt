use Rattle.std.proofs.Common.{◌+◌, ◌*◌, ◌<◌, ◌≤◌, length, is_ok, sym, ap, ◌∙◌, arith}
use Rattle.instruments.specs.Layout.{image_gates, image_gauges}
use Rattle.instruments.proofs.Writes.{gauges_kept, gates_set}
use Rattle.instruments.proofs.images.ImageWorks.set_gate.Goals as goal

pub returns-clause-after : goal.returns-clause-after
returns-clause-after c =
    let i = c.args.self.now in
    let f = c.ask.ensures.fits (ap is_ok c.in_ok-ask.was) in
    let l : 140 * c.args.site + 140 ≤ length i.bytes.items = omega (arith, f.0, i.whole.0) in
    ap image_gates c.put.ensures ∙ gates_set i.bytes.items c.args.site c.args.number c.args.value c.in_ok-ask.field-0 f.0 f.1 i.gates l (sym c.ask.ensures.value ∙ c.in_ok-ask.was)

pub returns-clause-same : goal.returns-clause-same
returns-clause-same c =
    let i = c.args.self.now in
    let f = c.ask.ensures.fits (ap is_ok c.in_ok-ask.was) in
    let n : c.args.number < 32 = omega (arith, f.1, i.gates c.args.site f.0) in
    ap image_gauges c.put.ensures ∙ gauges_kept i.bytes.items c.args.site c.args.number c.args.value n i.gauges
