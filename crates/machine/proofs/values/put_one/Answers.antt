use Rattle.std.proofs.Common.{codes, decimal}
use Rattle.std.proofs.lemmas.List.{append_assoc}
use Rattle.lines.proofs.Pieces.{then}
use Rattle.machine.proofs.values.put_one.Goals as goal

pub returns : goal.returns
returns c = rw (← append_assoc c.args.word.now (decimal c.args.number) (codes ")")) (then c.in_ok-numbered.ensures.ended c.word.ensures.writes)
