use Rattle.lines.proofs.Pieces.{then}
use Rattle.syntax.proofs.writer.WorldPrinted.put.Goals as goal

pub returns-in_ok-numbered-in-Site : goal.returns-in_ok-numbered-in-Site
returns-in_ok-numbered-in-Site c = rw c.in-Site.is (then c.in_ok-numbered-in-Site.ensures.ended c.word.ensures.writes)

pub returns-in_ok-numbered-in-Bound : goal.returns-in_ok-numbered-in-Bound
returns-in_ok-numbered-in-Bound c = rw c.in-Bound.is (then c.in_ok-numbered-in-Bound.ensures.ended c.word-in-Bound.ensures.writes)
