use Rattle.calculus.proofs.Executing.{execute_counts, never_broken}
use Rattle.calculus.proofs.Limits.{stays_within, starts_within}
use Rattle.calculus.proofs.Touched.{touched_once}
use Rattle.calculus.proofs.Joining.{runs_join}
use Rattle.calculus.proofs.Marks.{marks_stand}
use Rattle.calculus.proofs.theorems.runs_stand.Goals as goal

pub returns : goal.returns
returns c = record { counts = execute_counts; whole = never_broken; within = stays_within; start = starts_within; touched = touched_once; joins = runs_join; marks = marks_stand }
