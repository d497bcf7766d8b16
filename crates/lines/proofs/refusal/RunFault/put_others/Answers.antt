use Rattle.std.proofs.Common.{◌≡◌, ℕ, List, [], ◌∷◌, ◌++◌, codes, decimal, sym, ap}
use Rattle.std.proofs.lemmas.List.{append-nil}
use Rattle.lines.specs.Refusals.{values_text}
use Rattle.lines.proofs.Pieces.{then}
use Rattle.lines.proofs.refusal.RunFault.put_others.Goals as goal

-- the last value has nothing behind it
last : (n : ℕ) → codes " " ++ decimal n ≡ values_text (n ∷ [])
last n = ap (λ (t : List ℕ). codes " " ++ t) (sym (append-nil (decimal n)))

pub returns-in_ok-numbered-in-Register-2 : goal.returns-in_ok-numbered-in-Register-2
returns-in_ok-numbered-in-Register-2 c =
    let steps = c.args.self.steps in
    rw (c.in-Register.is, ← c.from.ensures, ← c.number.ensures, ← last steps)
    (then c.in_ok-numbered-in-Register.ensures.ended (then c.in_ok-numbered-in-Register-2.ensures.ended c.numbered-in-Register-2.ensures))

pub returns-in_ok-numbered-in-Full : goal.returns-in_ok-numbered-in-Full
returns-in_ok-numbered-in-Full c =
    let steps = c.args.self.steps in
    rw (c.in-Full.is, ← last steps)
    (then c.in_ok-numbered-in-Full.ensures.ended c.numbered-in-Full-2.ensures)
