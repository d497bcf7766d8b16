use Rattle.std.proofs.Common.{List, length, sym, ap, ◌∙◌, subst, arith}
use Rattle.syntax.specs.Place.{tables}
use Rattle.syntax.specs.declared.program.Term.{Term}
use Rattle.checker.specs.Judging.{Asks}
use Rattle.checker.specs.Concluding.{Clear}
use Rattle.checker.proofs.Whole.{whole_asks, whole_concluded}
use Rattle.checker.proofs.context.Context.conclude.Goals as goal

pub judge-requires : goal.judge-requires
judge-requires c =
    subst (λ (x : List Term). Asks c.load.new.self x 0) (sym c.terms.ensures)
    (whole_asks (tables c.args.program.now) c.load.new.self c.requires.sound (c.load.ensures.rows ∙ c.types.ensures) (c.load.ensures.written ∙ ap length c.types.ensures) (subst Clear (sym c.load.ensures.height) c.requires.clear))

pub returns-clause-concluded : goal.returns-clause-concluded
returns-clause-concluded c =
    whole_concluded (tables c.args.program.now) c.load.new.self c.requires.sound (c.load.ensures.rows ∙ c.types.ensures) (c.load.ensures.written ∙ ap length c.types.ensures) (subst Clear (sym c.load.ensures.height) c.requires.clear)
    c.sheet-sheet.ensures c.terms.ensures c.start-start.ensures (omega arith) c.judge.ensures.same c.judge.ensures.judged
