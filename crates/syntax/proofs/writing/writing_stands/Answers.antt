use Rattle.syntax.proofs.Restores.{written_right}
use Rattle.syntax.proofs.writing.writing_stands.Goals as goal

pub returns : goal.returns
returns c = written_right
