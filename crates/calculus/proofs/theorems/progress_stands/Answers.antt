use Rattle.calculus.proofs.Progress.{progress}
use Rattle.calculus.proofs.Safety.{stepping_holds}
use Rattle.calculus.proofs.theorems.progress_stands.Goals as goal

pub returns : goal.returns
returns c = record { one = progress; stepping = stepping_holds }
