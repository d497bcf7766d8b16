use Rattle.std.proofs.Common.{◌∙◌, arith}
use Rattle.machine.proofs.Growth.{elem_below}
use Rattle.machine.proofs.Rows.{set_length}
use Rattle.machine.proofs.Fresh.{cleared_more}
use Rattle.machine.proofs.start.clear_rows.Goals as goal

pub loop-row-preserved : goal.loop-row-preserved
loop-row-preserved c = (set_length c.loop-row.rows c.loop-row.row-index _ ∙ c.loop-row.invariant.0, cleared_more c.loop-row.rows c.loop-row.row-index _ c.clear.ensures c.loop-row.invariant.1)

pub returns : goal.returns
returns c = record { sixteen = c.loop-row.invariant.0; clear = λ k r e. c.loop-row.invariant.1 k r e (let h = elem_below c.loop-row.rows k r e in let l = c.loop-row-test.false in let n = c.loop-row.invariant.0 in omega arith) }
