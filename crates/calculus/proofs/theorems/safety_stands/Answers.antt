use Rattle.calculus.proofs.Safety.{start_typed, safety, answer_typed}
use Rattle.calculus.proofs.theorems.safety_stands.Goals as goal

pub returns : goal.returns
returns c = record { start = start_typed; safe = safety; answer = answer_typed }
