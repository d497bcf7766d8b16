use Rattle.lines.proofs.Pieces.{then}
use Rattle.checker.proofs.naming.TypeLinePrinted.put.Goals as goal

pub returns : goal.returns
returns c = then c.in_ok-word.ensures.writes.ended (then c.in_ok-put.ensures.ended c.word-2.ensures.writes)
