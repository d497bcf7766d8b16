use Rattle.std.proofs.Common.{sym, ap, ◌∙◌, rules}
use Rattle.calculus.specs.Program.{made_of}
use Rattle.machine.proofs.Growth.{elem_past}
use Rattle.machine.proofs.Sorts.{no_body}
use Rattle.machine.proofs.back.body.Goals as goal

pub returns-then-term-program : goal.returns-then-term-program
returns-then-term-program c = sym (ap (λ o. (made_of o).1) (elem_past c.args.program.now c.args.term (search rules)))

pub returns-in-Lam : goal.returns-in-Lam
returns-in-Lam c = sym (ap (λ o. (made_of o).1) c.in-Lam.ensures)

pub returns-in-Boxed : goal.returns-in-Boxed
returns-in-Boxed c = sym (ap (λ o. (made_of o).1) c.in-Boxed.ensures)

pub returns-in_default : goal.returns-in_default
returns-in_default c = sym (ap (λ o. (made_of o).1) c.row_at.ensures ∙ no_body c.row_at.result c.in_default.not-Lam c.in_default.not-Boxed)
