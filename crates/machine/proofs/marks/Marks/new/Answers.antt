use Rattle.std.proofs.Common.{refl}
use Rattle.machine.proofs.Marked.{blank}
use Rattle.machine.proofs.marks.Marks.new.Goals as goal

pub returns : goal.returns
returns c = blank _ refl
