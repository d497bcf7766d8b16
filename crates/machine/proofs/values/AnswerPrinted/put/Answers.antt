use Rattle.std.proofs.Common.{length}
use Rattle.lines.proofs.Pieces.{then}
use Rattle.machine.proofs.Props.{value_out}
use Rattle.machine.proofs.values.AnswerPrinted.put.Goals as goal

pub put_value-requires : goal.put_value-requires
put_value-requires c =
    let a = c.args.self.now in
    value_out a.cells.cells.now (length a.cells.cells.now) a.value a.within

pub returns : goal.returns
returns c = then c.in_ok-word.ensures.writes.ended (then c.in_ok-put_value.ensures.ended c.word-2.ensures.writes)
