use Rattle.std.proofs.lemmas.List.{take_rest}
use Rattle.syntax.proofs.Steps.{go_none}
use Rattle.syntax.proofs.Exits.{exit, told_grammar}
use Rattle.syntax.proofs.Finds.{word_found, word_missed}
use Rattle.syntax.proofs.reader.Reader.pick.Goals as goal

pub returns-in_err-peek-clause-led : goal.returns-in_err-peek-clause-led
returns-in_err-peek-clause-led c = λ o k s a free. exit _ _ c.from_residual.ensures.1 _ _ (told_grammar _ _ _ c.in_err-peek.ensures.1 (go_none _ _ s _ c.in_err-peek.ensures.0))

pub returns-in-Ok-clause-led : goal.returns-in-Ok-clause-led
returns-in-Ok-clause-led c = λ o k s a free. word_found o k s c.args.forms.now c.args.self.now.text.now _ c.args.self.now.place (take_rest c.args.self.now.text.now c.args.self.now.place) c.in-Ok.form c.word.result.now free a c.in-Ok.ensures.0 c.in-Ok.ensures.1 c.word.ensures

pub returns-in-Err-clause-led : goal.returns-in-Err-clause-led
returns-in-Err-clause-led c = λ o k s a free. word_missed o k s c.args.forms.now c.args.self.now.text.now _ c.args.self.now.place (take_rest c.args.self.now.text.now c.args.self.now.place) c.in-Err.far free c.in-Err.ensures.0 c.in-Err.ensures.1
