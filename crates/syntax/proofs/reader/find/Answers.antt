use Rattle.std.proofs.Common.{◌≡◌, max, ◌∙◌, rules}
use Rattle.syntax.proofs.Finds.{agreed_taken, found_at, misses_more}
use Rattle.syntax.proofs.reader.find.Goals as goal

pub returns-then-n-word : goal.returns-then-n-word
returns-then-n-word c = found_at c.args.forms.now c.loop-form.form-index c.agree-n.result _ c.word-word.result.now c.args.text.now
    c.loop-form-test.true c.word-word.ensures (c.agree-n.ensures ∙ agreed_taken c.word-word.result.now c.args.text.now) c.if-n-word.true

pub loop-form-preserved : goal.loop-form-preserved
loop-form-preserved c = misses_more c.args.forms.now c.loop-form.form-index c.agree-n.result _ c.word-word.result.now c.args.text.now c.loop-form.far _
    c.loop-form-test.true c.word-word.ensures (c.agree-n.ensures ∙ agreed_taken c.word-word.result.now c.args.text.now) c.if-n-word.false c.loop-form.invariant
    (let e : c.max-far.result ≡ max c.loop-form.far c.agree-n.result = search rules in e)
