use Rattle.lines.proofs.Pieces.{then}
use Rattle.syntax.proofs.writing.ProgramPrinted.put.Goals as goal

pub returns : goal.returns
returns c = then c.in_ok-put_stations.ensures.ended (then c.in_ok-numbered.ensures.ended (then c.in_ok-word.ensures.writes.ended (then c.in_ok-put_term.ensures.ended c.word-2.ensures.writes)))
