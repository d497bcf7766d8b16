use Rattle.std.proofs.Common.{◌≡◌, Ok, vec_items, sym, ◌∙◌, rules}
use Rattle.instruments.specs.Accepted.{accepted}
use Rattle.instruments.proofs.Bads.{accepted_whole}
use Rattle.instruments.proofs.image.Image.new.Goals as goal

pub invariant_of-result : goal.invariant_of-result
invariant_of-result c =
    let e : vec_items c.in_ok-bytes.bytes ≡ c.args.bytes.now = search rules in
    let a : accepted c.args.bytes.now ≡ Ok tt = sym c.check.ensures ∙ c.in_ok-check.was in
    let w = accepted_whole c.args.bytes.now a in
    rw e (record { whole = w.0; gauges = w.1; gates = w.2 })
