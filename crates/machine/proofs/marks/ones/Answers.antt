use Rattle.std.proofs.Common.{◌≡◌, ◌∙◌, rules}
use lib.Count.{ones}
use Rattle.std.specs.List.{sum_by}
use Rattle.machine.proofs.Marked.{bytes_count}
use Rattle.machine.proofs.marks.ones.Goals as goal

pub returns : goal.returns
returns c =
    let bs = c.args.bytes.now in
    let total : c.sum.result ≡ sum_by ones bs = search rules in
    total ∙ bytes_count bs (λ k. search rules)
