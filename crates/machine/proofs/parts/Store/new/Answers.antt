use Rattle.std.proofs.Common.{◌<◌, refl, get_or, subst, arith, rules}
use Rattle.machine.specs.Start.{NewRow}
use Rattle.machine.proofs.Growth.{elem_below, elem_default}
use Rattle.machine.proofs.Fresh.{fresh}
use Rattle.machine.proofs.parts.Store.new.Goals as goal

pub returns : goal.returns
returns c =
    let made = c.in_ok-rows.ensures.ok in
    fresh _ c.in_ok-cells.ensures c.in_ok-frames.ensures
    (λ i r e. let below = elem_below c.in_ok-rows.rows i r e in let long = made.long in let k : i < 16 = omega arith in let w = (made.at i r k).2 in let n : NewRow (get_or c.in_ok-rows.rows i r) = search rules in subst NewRow (elem_default c.in_ok-rows.rows i r r e) n)
    made.long refl refl
