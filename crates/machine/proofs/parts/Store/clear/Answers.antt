use Rattle.std.proofs.Common.{refl}
use Rattle.machine.proofs.Fresh.{fresh}
use Rattle.machine.proofs.parts.Store.clear.Goals as goal

pub returns : goal.returns
returns c = fresh _ c.clear.ensures c.clear-2.ensures c.clear_rows.ensures.clear c.clear_rows.ensures.sixteen refl refl
