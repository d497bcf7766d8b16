use Rattle.std.proofs.Common.{◌≡◌, true, false, sym, ap, ◌∙◌, arith}
use Rattle.machine.specs.Answers.{held, is_pair}
use Rattle.machine.specs.declared.parts.Cell.TheVariants as Holds
use Rattle.machine.proofs.Sorts.{pair_held, halves_in}
use Rattle.machine.proofs.Stays.{meanings_read}
use Rattle.machine.proofs.Sound.{sound}
use Rattle.machine.proofs.parts.State.halves.Goals as goal

pub unreachable-requires-in_default-cell : goal.unreachable-requires-in_default-cell
unreachable-requires-in_default-cell c =
    let s = c.args.self.now in
    let m = meanings_read s.store.cells.items c.in-Pair.place (Holds.Binding c.in_default-cell.field-0 c.in_default-cell.field-1) (sound c.args.self.now).store_in.cells_in c.in_default-cell.ensures in
    let z : false ≡ true = sym (ap (λ v. is_pair (held s v)) c.in-Pair.is ∙ ap (λ x. is_pair x.pair) m) ∙ c.requires.kind in
    grind arith

pub returns : goal.returns
returns c =
    let s = c.args.self.now in
    let cs = s.store.cells.items in
    let h = halves_in cs (sound c.args.self.now).store_in.cells_in c.in-Pair.place c.in-Pair-cell.left c.in-Pair-cell.right c.in-Pair-cell.ensures in
    record { left = h.0; right = h.1; is = ap (held s) c.in-Pair.is ∙ pair_held cs (sound c.args.self.now).store_in.cells_in c.in-Pair.place c.in-Pair-cell.left c.in-Pair-cell.right c.in-Pair-cell.ensures }
