use Rattle.lines.proofs.Pieces.{then}
use Rattle.syntax.proofs.writing.put_station.Goals as goal

pub returns : goal.returns
returns c = then c.in_ok-numbered.ensures.ended (then c.in_ok-numbered-2.ensures.ended c.word.ensures.writes)
