use Rattle.calculus.proofs.Safety.{substitution_holds}
use Rattle.calculus.proofs.theorems.substitution_stands.Goals as goal

pub returns : goal.returns
returns c = substitution_holds
