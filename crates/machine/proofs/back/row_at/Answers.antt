use Rattle.machine.proofs.Growth.{elem_getD}
use Rattle.machine.proofs.back.row_at.Goals as goal

pub returns : goal.returns
returns c = elem_getD _ _ _ c.requires
