use Rattle.std.proofs.Common.{◌≡◌, ℕ, ◌<◌, ◌⊎◌, sym, inl, inr, arith}
use Rattle.syntax.proofs.Steps.{go_none}
use Rattle.syntax.proofs.Exits.{exit, told_grammar}
use Rattle.syntax.proofs.Begins.{item_refuses, item_deep, item_begins}
use Rattle.syntax.proofs.reader.Reader.first.Goals as goal

room_of : {c d : ℕ} → ((c ≡ 40) × (d < 64)) ⊎ (c ≡ 40 → ⊥) → c ≡ 40 → d < 64
room_of (inl p) q = p.1
room_of (inr p) q = absurd (p q)

pub returns-in_err-c-clause-led : goal.returns-in_err-c-clause-led
returns-in_err-c-clause-led c = λ k s d. exit _ _ c.from_residual.ensures.1 _ _ (told_grammar _ _ _ c.in_err-c.ensures.1 (go_none _ _ s _ c.in_err-c.ensures.0))

pub returns-then-not-begins-clause-led : goal.returns-then-not-begins-clause-led
returns-then-not-begins-clause-led c = λ k s d. item_refuses _ _ c.args.sort k s _ _ c.in_ok-c.ensures.0 (sym c.if-not-begins.ensures)

pub returns-then-depth-ge-DEEPEST-clause-led : goal.returns-then-depth-ge-DEEPEST-clause-led
returns-then-depth-ge-DEEPEST-clause-led c = λ k s d. item_deep _ _ c.args.sort k s _ _ c.in_ok-c.ensures.0 c.if-c-eq40.true (omega arith)

pub returns-clause-led : goal.returns-clause-led
returns-clause-led c = λ k s d. item_begins _ _ c.args.sort k s _ _ c.in_ok-c.ensures.0 (sym c.if-not-begins.ensures) (λ q. omega (arith, room_of c.else-c-eq40.either q))
