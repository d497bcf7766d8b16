use Rattle.std.proofs.Common.{sym, subst, ◌≡◌, true, List}
use Rattle.syntax.specs.declared.program.Ty.{Ty as TypeRow}
use Rattle.checker.specs.Typed.{table_test}
use Rattle.checker.specs.Scopes.{rows_of}
use Rattle.checker.proofs.Laying.{table_tests}
use Rattle.checker.proofs.context.Context.expect.Goals as goal

pub invariant_of-types : goal.invariant_of-types
invariant_of-types c =
    let s = c.args.self.now in
    record { laid = subst (λ (rows : List TypeRow). table_test s.written rows ≡ true) (sym c.as_slice.ensures.value) (table_tests s.written (rows_of s) c.requires.laid) }
