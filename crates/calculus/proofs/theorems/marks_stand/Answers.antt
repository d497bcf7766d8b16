use Rattle.calculus.proofs.Marked.{marks_law, line_alike, marked_join}
use Rattle.calculus.proofs.theorems.marks_stand.Goals as goal

pub returns : goal.returns
returns c = record { law = marks_law; line = line_alike; joins = marked_join }
