use Rattle.std.proofs.Common.{sym, ap, ◌∙◌, subst}
use Rattle.calculus.specs.Machine
use Rattle.calculus.specs.Limits.{lacking, no_place}
use Rattle.machine.specs.Meaning.{state_of, sites_of, places_of}
use Rattle.machine.specs.Answers.{Goes, answered, chosen, scope, over}
use Rattle.machine.proofs.Sorts.{is_number_then}
use Rattle.machine.specs.declared.parts.Value.TheVariants as Val
use Rattle.machine.proofs.Sound.{sound}
use Rattle.machine.proofs.parts.State.choose.Goals as goal

pub unreachable-requires : goal.unreachable-requires
unreachable-requires c = is_number_then c.args.self.now.store.cells.items (sound c.args.self.now).store_in.cells_in c.args.left c.requires.left c.requires.first c.in_default.not-Number

pub unreachable-requires-in_default-value : goal.unreachable-requires-in_default-value
unreachable-requires-in_default-value c = is_number_then c.args.self.now.store.cells.items (sound c.args.self.now).store_in.cells_in c.args.value c.requires.work.0 c.requires.second c.in_default-value.not-Number

pub returns : goal.returns
returns c v =
    let s = c.args.self.now in
    let e = c.args.environment in
    let path =
    ap (λ a. chosen v s c.args.next a c.args.less c.args.otherwise e c.args.value) c.in-Number.is
    ∙ ap (λ u. chosen v s c.args.next (Val.Number c.in-Number.one) c.args.less c.args.otherwise e u) c.in-Number-value.is
    ∙ ap (λ x. Machine.next v (sites_of s) s.site (places_of s) (over s c.args.next) (Machine.eval x (scope s e))) (sym c.pick-term.ensures) in
    subst (λ o. Goes s c.go_on.new.self v (answered o (lacking no_place (state_of s)))) (sym path) (c.go_on.ensures v)
