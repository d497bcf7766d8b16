use Rattle.std.proofs.Common.{arith, sym, refl, ap, ◌∙◌}
use Rattle.calculus.specs.Machine
use Rattle.calculus.specs.Tables.{empty_table}
use Rattle.machine.proofs.Fresh.{begun_in, begun_means}
use Rattle.machine.proofs.parts.State.new.Goals as goal

pub invariant_of-result : goal.invariant_of-result
invariant_of-result c = record { sound = ∣ begun_in c.in_ok-new.field-0 1 0 c.in_ok-new.ensures (omega arith) (omega arith) ∣₁ }

pub returns-clause-means : goal.returns-clause-means
returns-clause-means c = λ P n e.
    begun_means c.in_ok-new.field-0 c.in_ok-new.ensures P.sheet 1 0 n (omega arith) (omega arith)
    ∙ ap (λ w. Machine.state (record { published = empty_table P.sheet; kept = empty_table P.sheet }) w Machine.finish (Machine.eval 0 Machine.empty) (record { frames = 0; bindings = 0; pairs = 0 })) (sym e)
