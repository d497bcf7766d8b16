use Rattle.lines.proofs.Pieces.{then}
use Rattle.lines.proofs.codes.RefusedPrinted.put.Goals as goal

pub returns : goal.returns
returns c =
    rw (← c.code-number.ensures.number, ← c.code-number.ensures.first)
    (then c.in_ok-numbered.ensures.ended (then c.in_ok-numbered-2.ensures.ended c.word.ensures.writes))
