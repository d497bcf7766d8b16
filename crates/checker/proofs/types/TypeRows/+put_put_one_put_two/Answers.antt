use Rattle.std.proofs.Common.{length, codes, arith}
use Rattle.lines.proofs.Pieces.{then, stops}
use Rattle.syntax.specs.declared.program.Ty.TheVariants as Row
use Rattle.checker.specs.TypeTable.{Below}
use Rattle.checker.proofs.Compare.{parts_in}
use Rattle.checker.proofs.Laying.{laid_of}
use Rattle.checker.proofs.Lower.{Lower, height, parts_lower, text_at}
use Rattle.checker.proofs.types.TypeRows.+put_put_one_put_two.Goals as goal

pub put-returns-in-Num : goal.put-returns-in-Num
put-returns-in-Num t c = rw (text_at c.args.self.now.written c.args.self.now.rows.now (laid_of c.args.self.now) c.args.number Row.Num c.requires c.in-Num.is) c.word.ensures.writes

pub put-returns-in-Never : goal.put-returns-in-Never
put-returns-in-Never t c = rw (text_at c.args.self.now.written c.args.self.now.rows.now (laid_of c.args.self.now) c.args.number Row.Never c.requires c.in-Never.is) c.word-in-Never.ensures.writes

pub put-put_two-requires : goal.put-put_two-requires
put-put_two-requires t c =
    let b : Below (length c.args.self.now.rows.now) (Row.Fn c.in-Fn.from c.in-Fn.to) = parts_in c.args.self.now.written c.args.self.now.rows.now (laid_of c.args.self.now) c.args.number (Row.Fn c.in-Fn.from c.in-Fn.to) c.requires c.in-Fn.is in
    let l : Lower c.args.self.now.written (height c.args.self.now.written c.args.number) (Row.Fn c.in-Fn.from c.in-Fn.to) = parts_lower c.args.self.now.written c.args.self.now.rows.now (laid_of c.args.self.now) c.args.number (Row.Fn c.in-Fn.from c.in-Fn.to) c.requires c.in-Fn.is in
    (omega (arith, c.decreases, l.0, l.1), (b.0, b.1))

pub put-returns-in_err-word-in-Fn : goal.put-returns-in_err-word-in-Fn
put-returns-in_err-word-in-Fn t c = rw (text_at c.args.self.now.written c.args.self.now.rows.now (laid_of c.args.self.now) c.args.number (Row.Fn c.in-Fn.from c.in-Fn.to) c.requires c.in-Fn.is) (stops (codes "(fn ") _ c.from_residual.ensures.0 c.in_err-word-in-Fn.ensures.writes.ended)

pub put-returns-in_ok-word-in-Fn : goal.put-returns-in_ok-word-in-Fn
put-returns-in_ok-word-in-Fn t c = rw (text_at c.args.self.now.written c.args.self.now.rows.now (laid_of c.args.self.now) c.args.number (Row.Fn c.in-Fn.from c.in-Fn.to) c.requires c.in-Fn.is) (then c.in_ok-word-in-Fn.ensures.writes.ended c.put_two.ensures)

pub put-put_two-requires-in-Both : goal.put-put_two-requires-in-Both
put-put_two-requires-in-Both t c =
    let b : Below (length c.args.self.now.rows.now) (Row.Both c.in-Both.left c.in-Both.right) = parts_in c.args.self.now.written c.args.self.now.rows.now (laid_of c.args.self.now) c.args.number (Row.Both c.in-Both.left c.in-Both.right) c.requires c.in-Both.is in
    let l : Lower c.args.self.now.written (height c.args.self.now.written c.args.number) (Row.Both c.in-Both.left c.in-Both.right) = parts_lower c.args.self.now.written c.args.self.now.rows.now (laid_of c.args.self.now) c.args.number (Row.Both c.in-Both.left c.in-Both.right) c.requires c.in-Both.is in
    (omega (arith, c.decreases, l.0, l.1), (b.0, b.1))

pub put-returns-in_err-word-in-Both : goal.put-returns-in_err-word-in-Both
put-returns-in_err-word-in-Both t c = rw (text_at c.args.self.now.written c.args.self.now.rows.now (laid_of c.args.self.now) c.args.number (Row.Both c.in-Both.left c.in-Both.right) c.requires c.in-Both.is) (stops (codes "(both ") _ c.from_residual-in_err-word-in-Both.ensures.0 c.in_err-word-in-Both.ensures.writes.ended)

pub put-returns-in_ok-word-in-Both : goal.put-returns-in_ok-word-in-Both
put-returns-in_ok-word-in-Both t c = rw (text_at c.args.self.now.written c.args.self.now.rows.now (laid_of c.args.self.now) c.args.number (Row.Both c.in-Both.left c.in-Both.right) c.requires c.in-Both.is) (then c.in_ok-word-in-Both.ensures.writes.ended c.put_two-in-Both.ensures)

pub put-put_one-requires : goal.put-put_one-requires
put-put_one-requires t c =
    let b : Below (length c.args.self.now.rows.now) (Row.Boxed c.in-Boxed.part) = parts_in c.args.self.now.written c.args.self.now.rows.now (laid_of c.args.self.now) c.args.number (Row.Boxed c.in-Boxed.part) c.requires c.in-Boxed.is in
    let l : Lower c.args.self.now.written (height c.args.self.now.written c.args.number) (Row.Boxed c.in-Boxed.part) = parts_lower c.args.self.now.written c.args.self.now.rows.now (laid_of c.args.self.now) c.args.number (Row.Boxed c.in-Boxed.part) c.requires c.in-Boxed.is in
    (omega (arith, c.decreases, l), b)

pub put-returns-in_err-word-in-Boxed : goal.put-returns-in_err-word-in-Boxed
put-returns-in_err-word-in-Boxed t c = rw (text_at c.args.self.now.written c.args.self.now.rows.now (laid_of c.args.self.now) c.args.number (Row.Boxed c.in-Boxed.part) c.requires c.in-Boxed.is) (stops (codes "(box ") _ c.from_residual-in_err-word-in-Boxed.ensures.0 c.in_err-word-in-Boxed.ensures.writes.ended)

pub put-returns-in_ok-word-in-Boxed : goal.put-returns-in_ok-word-in-Boxed
put-returns-in_ok-word-in-Boxed t c = rw (text_at c.args.self.now.written c.args.self.now.rows.now (laid_of c.args.self.now) c.args.number (Row.Boxed c.in-Boxed.part) c.requires c.in-Boxed.is) (then c.in_ok-word-in-Boxed.ensures.writes.ended c.put_one.ensures)

pub put-put_one-requires-in-At : goal.put-put_one-requires-in-At
put-put_one-requires-in-At t c =
    let b : Below (length c.args.self.now.rows.now) (Row.At c.in-At.part) = parts_in c.args.self.now.written c.args.self.now.rows.now (laid_of c.args.self.now) c.args.number (Row.At c.in-At.part) c.requires c.in-At.is in
    let l : Lower c.args.self.now.written (height c.args.self.now.written c.args.number) (Row.At c.in-At.part) = parts_lower c.args.self.now.written c.args.self.now.rows.now (laid_of c.args.self.now) c.args.number (Row.At c.in-At.part) c.requires c.in-At.is in
    (omega (arith, c.decreases, l), b)

pub put-returns-in_err-word-in-At : goal.put-returns-in_err-word-in-At
put-returns-in_err-word-in-At t c = rw (text_at c.args.self.now.written c.args.self.now.rows.now (laid_of c.args.self.now) c.args.number (Row.At c.in-At.part) c.requires c.in-At.is) (stops (codes "(at ") _ c.from_residual-in_err-word-in-At.ensures.0 c.in_err-word-in-At.ensures.writes.ended)

pub put-returns-in_ok-word-in-At : goal.put-returns-in_ok-word-in-At
put-returns-in_ok-word-in-At t c = rw (text_at c.args.self.now.written c.args.self.now.rows.now (laid_of c.args.self.now) c.args.number (Row.At c.in-At.part) c.requires c.in-At.is) (then c.in_ok-word-in-At.ensures.writes.ended c.put_one-in-At.ensures)

pub put_one-returns : goal.put_one-returns
put_one-returns t c = then c.in_ok-put.ensures.ended c.word.ensures.writes

pub put_two-returns : goal.put_two-returns
put_two-returns t c = then c.in_ok-put.ensures.ended (then c.in_ok-word.ensures.writes.ended (then c.in_ok-put-2.ensures.ended c.word-2.ensures.writes))
