use Rattle.lines.proofs.Pieces.{then}
use Rattle.instruments.proofs.survey.put_gauge.Goals as goal

pub returns-in_ok-numbered-in-Some-3 : goal.returns-in_ok-numbered-in-Some-3
returns-in_ok-numbered-in-Some-3 c =
    rw c.in-Some.is (then c.in_ok-numbered-in-Some.ensures.ended (then c.in_ok-numbered-in-Some-2.ensures.ended (then c.in_ok-numbered-in-Some-3.ensures.ended c.word.ensures.writes)))

pub returns-in_ok-numbered-in-None-2 : goal.returns-in_ok-numbered-in-None-2
returns-in_ok-numbered-in-None-2 c =
    rw c.in-None.is (then c.in_ok-numbered-in-None.ensures.ended (then c.in_ok-numbered-in-None-2.ensures.ended c.word-in-None.ensures.writes))
