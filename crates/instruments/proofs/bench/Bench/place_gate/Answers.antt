use Rattle.std.proofs.Common.{◌≤◌, length, take, set, sym, ap, ◌∙◌, arith}
use Rattle.instruments.specs.Benches.{bench_gates, fitted_gates, fitted_gauges}
use Rattle.instruments.proofs.Sites.{slot_at, slot_put, slot_kept, row_at}
use Rattle.instruments.proofs.bench.Bench.place_gate.Goals as goal

pub returns-clause-after : goal.returns-clause-after
returns-clause-after c =
    let items = c.args.self.now.sites in
    let fits : items.count ≤ length items.slots = omega (arith, items.within.0, items.within.1) in
    let there = c.in_ok-banks.field-0.now in
    let same = slot_at fitted_gates items.slots items.count c.args.site fits there c.in_ok-banks.ensures c.index-slots-site.result in
    slot_put fitted_gates items.slots items.count c.args.site fits there c.in_ok-banks.ensures _
    ∙ ap (λ r. set (bench_gates c.args.self.now) c.args.site r)
    (c.place.ensures.after ∙ ap (λ r. set r c.args.number c.args.shows) (ap fitted_gates same ∙ sym (row_at fitted_gates (take items.count items.slots) c.args.site there c.in_ok-banks.ensures)))

pub returns-clause-same : goal.returns-clause-same
returns-clause-same c =
    let items = c.args.self.now.sites in
    let fits : items.count ≤ length items.slots = omega (arith, items.within.0, items.within.1) in
    let there = c.in_ok-banks.field-0.now in
    let same = slot_at fitted_gauges items.slots items.count c.args.site fits there c.in_ok-banks.ensures c.index-slots-site.result in
    slot_kept fitted_gauges items.slots items.count c.args.site fits there c.in_ok-banks.ensures _ (ap fitted_gauges same)
