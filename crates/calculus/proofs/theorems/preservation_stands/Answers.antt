use Rattle.calculus.proofs.Preservation.{preservation}
use Rattle.calculus.proofs.Effects.{agrees_after}
use Rattle.calculus.proofs.Safety.{silent_holds, run_keeps}
use Rattle.calculus.proofs.theorems.preservation_stands.Goals as goal

pub returns : goal.returns
returns c = record { step = preservation; silent = silent_holds; sheet = agrees_after; run = run_keeps }
