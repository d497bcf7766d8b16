use Rattle.lines.proofs.Pieces.{then}
use Rattle.machine.proofs.stand.StandPrinted.put.Goals as goal

pub returns : goal.returns
returns c =
    rw (← c.word-2.ensures)
    (then c.in_ok-numbered.ensures.ended (then c.in_ok-word.ensures.writes.ended (then c.in_ok-word-2.ensures.writes.ended (then c.in_ok-numbered-2.ensures.ended (then c.in_ok-numbered-3.ensures.ended (then c.in_ok-numbered-4.ensures.ended (then c.in_ok-numbered-5.ensures.ended c.word-4.ensures.writes)))))))
