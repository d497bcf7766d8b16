use Rattle.std.proofs.Common.{◌≡◌, ◌-◌, sym, refl, ap, arith}
use Rattle.calculus.specs.Types.{bound}
use Rattle.calculus.specs.Program.{level}
use Rattle.checker.proofs.Counts.{level_in, level_out}
use Rattle.checker.proofs.context.Context.world_at.Goals as goal

pub returns-then-count-bound : goal.returns-then-count-bound
returns-then-count-bound c =
    let n = c.args.self.now.height.worlds in
    let i = c.in-Bound.count in
    let l : level n i ≡ n - 1 - i = level_in n i c.if-count-bound.true in
    rw c.in-Bound.is (ap bound (sym l), omega (arith, l))

pub returns-else-count-bound : goal.returns-else-count-bound
returns-else-count-bound c =
    let n = c.args.self.now.height.worlds in
    let i = c.in-Bound.count in
    let l : level n i ≡ n = level_out n i c.if-count-bound.false in
    rw c.in-Bound.is (refl, λ h. omega (arith, l))
