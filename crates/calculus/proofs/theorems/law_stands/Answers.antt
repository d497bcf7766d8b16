use Rattle.calculus.proofs.Logs.{log_law, line_stands}
use Rattle.calculus.proofs.Settled.{run_settled}
use Rattle.calculus.proofs.Joining.{calls_join}
use Rattle.calculus.proofs.theorems.law_stands.Goals as goal

pub returns : goal.returns
returns c = record { log = log_law; line = line_stands; settled = run_settled; joins = calls_join }
