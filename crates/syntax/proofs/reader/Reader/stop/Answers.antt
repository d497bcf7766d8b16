use Rattle.std.proofs.Common.{sym, ◌∙◌}
use Rattle.syntax.proofs.Steps.{stop_takes, stop_refuses, stop_ends}
use Rattle.syntax.proofs.Exits.{exit, told_grammar}
use Rattle.syntax.proofs.reader.Reader.stop.Goals as goal

pub returns-in_err-c : goal.returns-in_err-c
returns-in_err-c c = λ a k s f. exit _ _ c.from_residual.ensures.1 _ _ (told_grammar _ _ _ c.in_err-c.ensures.1 (stop_ends _ _ _ a k s f c.in_err-c.ensures.0))

pub returns-then-c-b : goal.returns-then-c-b
returns-then-c-b c = λ a k s f. stop_refuses _ _ c.args.b a k s f _ _ c.in_ok-c.ensures.0 c.if-c-b.true

pub returns : goal.returns
returns c = λ a k s f. stop_takes _ _ c.in_ok-c.c a k s (f ∙ sym c.if-c-b.false) _ c.in_ok-c.ensures.0
