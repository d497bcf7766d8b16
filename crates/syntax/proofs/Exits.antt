-- The exit of a `?`, and what one call led to put before the next.
use Rattle.std.proofs.Common.{◌≡◌, ℕ, IsErrAnd, Err, Result, sym, ap, ◌∙◌, subst}
use Rattle.std.proofs.lemmas.Result.{err_from_is_err_and}
use Rattle.lines.specs.declared.refusal.TextFault.{TextFault}
use Rattle.lines.specs.declared.refusal.TextFault.TheVariants.{Grammar}
use Rattle.syntax.specs.Reading.{Outcome}
use Rattle.syntax.specs.Reading.Outcome.{refused}
use Rattle.syntax.specs.Views.{Led, told}

pub exit : {X : Type 0} (r : Result X TextFault) (e : TextFault) → IsErrAnd r (λ y. y ≡ e) → (o : Outcome) (f : X → Outcome) → o ≡ told e → Led r o f
exit {X} r e h o f t =
    let p = err_from_is_err_and r h in
    subst (λ (q : Result X TextFault). Led q o f) (sym (p.1 ∙ ap (λ (y : TextFault). Err y) p.2)) t

pub told_grammar : (e : TextFault) (p : ℕ) (o : Outcome) → e ≡ Grammar p → o ≡ refused 11 p → o ≡ told e
told_grammar e p o q h = h ∙ ap told (sym q)
