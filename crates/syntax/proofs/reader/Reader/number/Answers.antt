use Rattle.std.proofs.Common.{sym, ◌∙◌, arith}
use Rattle.std.proofs.lemmas.Bool.{and_from, and_left, and_right, lt-ltb, le-ltb, both_ways}
use Rattle.syntax.proofs.Steps.{number_refuses, number_zero, number_some, digits_stop, digits_large, digits_sheet, digits_on, go_none}
use Rattle.syntax.proofs.Exits.{exit, told_grammar}
use Rattle.syntax.proofs.reader.Reader.number.Goals as goal
use Rattle.syntax.proofs.reader.Reader.number.Goals.{else-counts-via-then-counts+else-value-gt-MOST, else-counts-via-else-counts}

pub returns-in_err-c-clause-led : goal.returns-in_err-c-clause-led
returns-in_err-c-clause-led c = λ a k s g. exit _ _ c.from_residual.ensures.1 _ _ (told_grammar _ _ _ c.in_err-c.ensures.1 (go_none _ _ s _ c.in_err-c.ensures.0))

pub returns-then-not-is_ascii_digit-clause-led : goal.returns-then-not-is_ascii_digit-clause-led
returns-then-not-is_ascii_digit-clause-led c = λ a k s g. number_refuses _ _ _ a k s _ _ c.in_ok-c.ensures.0 (sym c.if-not-is_ascii_digit.ensures.value)

pub returns-then-value-eq0-clause-led : goal.returns-then-value-eq0-clause-led
returns-then-value-eq0-clause-led c = λ a k s g. number_zero _ _ _ a k s c.in_ok-c.c _ c.in_ok-c.ensures.0 (omega (arith, c.if-not-is_ascii_digit.ensures.cases))

-- from the first digit to the loop, and through its turns
pub returns-in_err-c-2-clause-led : goal.returns-in_err-c-2-clause-led
returns-in_err-c-2-clause-led c = λ a k s g. exit _ _ c.from_residual-in_err-c-2.ensures.1 _ _ (told_grammar _ _ _ c.in_err-c-2.ensures.1
    (number_some _ _ _ a k s _ _ c.in_ok-c.ensures.0 (sym c.if-not-is_ascii_digit.ensures.value) (λ e. c.if-value-eq0.false (omega arith)) _ c.from-value.ensures
    ∙ c.loop-c.invariant.0 a k s g ∙ go_none _ _ s _ c.in_err-c-2.ensures.0))

pub returns-then-not-is_ascii_digit-2-clause-led : goal.returns-then-not-is_ascii_digit-2-clause-led
returns-then-not-is_ascii_digit-2-clause-led c = λ a k s g. number_some _ _ _ a k s _ _ c.in_ok-c.ensures.0 (sym c.if-not-is_ascii_digit.ensures.value) (λ e. c.if-value-eq0.false (omega arith)) _ c.from-value.ensures
    ∙ c.loop-c.invariant.0 a k s g ∙ digits_stop _ _ _ a k s _ _ c.in_ok-c-2.ensures.0 _ _ g (sym c.if-not-is_ascii_digit-2.ensures.value)

pub returns-then-value-gt-LARGEST-clause-led : goal.returns-then-value-gt-LARGEST-clause-led
returns-then-value-gt-LARGEST-clause-led c = λ a k s g. number_some _ _ _ a k s _ _ c.in_ok-c.ensures.0 (sym c.if-not-is_ascii_digit.ensures.value) (λ e. c.if-value-eq0.false (omega arith)) _ c.from-value.ensures
    ∙ c.loop-c.invariant.0 a k s g ∙ digits_large _ _ _ a k s _ _ c.in_ok-c-2.ensures.0 _ _ g (sym c.if-not-is_ascii_digit-2.ensures.value) _ c.from.ensures c.if-value-gt-LARGEST.true

pub returns-then-value-gt-MOST-clause-led : goal.returns-then-value-gt-MOST-clause-led
returns-then-value-gt-MOST-clause-led c = λ a k s g. number_some _ _ _ a k s _ _ c.in_ok-c.ensures.0 (sym c.if-not-is_ascii_digit.ensures.value) (λ e. c.if-value-eq0.false (omega arith)) _ c.from-value.ensures
    ∙ c.loop-c.invariant.0 a k s g ∙ digits_sheet _ _ _ a k s _ _ c.in_ok-c-2.ensures.0 _ _ g (sym c.if-not-is_ascii_digit-2.ensures.value) _ c.from.ensures (omega arith)
    (and_from _ _ c.if-counts.true (lt-ltb 32 _ c.if-value-gt-MOST.true))

pub loop-c-preserved : goal.loop-c-preserved
loop-c-preserved c = (
  (λ a k s g. c.loop-c.invariant.0 a k s g ∙ digits_on _ _ _ a k s _ _ c.in_ok-c-2.ensures.0 _ _ g (sym c.if-not-is_ascii_digit-2.ensures.value) _ c.from.ensures (omega arith)
      (elim c.else-counts.branch [ else-counts-via-then-counts+else-value-gt-MOST w ↦ and_right c.args.counts _ (le-ltb 32 _ w.if-value-gt-MOST.false) | else-counts-via-else-counts w ↦ and_left c.args.counts _ w.if-counts.false ])),
  omega arith,
  λ k. elim c.else-counts.branch [ else-counts-via-then-counts+else-value-gt-MOST w ↦ omega (arith, w.if-value-gt-MOST.false) | else-counts-via-else-counts w ↦ absurd (both_ways c.args.counts w.if-counts.false k) ],
)
