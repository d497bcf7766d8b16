use Rattle.std.proofs.Common.{rules}
use Rattle.machine.proofs.Growth.{elem_read}
use Rattle.machine.proofs.parts.Store.frame.Goals as goal

pub returns : goal.returns
returns c = search (rules, elem_read)
