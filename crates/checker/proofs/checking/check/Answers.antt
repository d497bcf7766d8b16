use Rattle.calculus.proofs.Checking.{check_decides}
use Rattle.checker.proofs.checking.check.Goals as goal

pub returns-in_default-clause-decides : goal.returns-in_default-clause-decides
returns-in_default-clause-decides c = check_decides

pub returns-in_err-ty-clause-decides : goal.returns-in_err-ty-clause-decides
returns-in_err-ty-clause-decides c = check_decides

pub returns-clause-decides : goal.returns-clause-decides
returns-clause-decides c = check_decides
