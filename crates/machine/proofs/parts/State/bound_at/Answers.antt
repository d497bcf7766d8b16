use Rattle.std.proofs.Common.{sym, ap, ◌∙◌}
use Rattle.machine.specs.Meaning.{meanings, environment_of}
use Rattle.machine.specs.Lookups.{sought}
use Rattle.machine.proofs.Sound.{cells_sound}
use Rattle.machine.proofs.Walks.{walk_pair, walk_here, walk_on, walk_in}
use Rattle.machine.proofs.parts.State.bound_at.Goals as goal

pub returns-in_default-cell : goal.returns-in_default-cell
returns-in_default-cell c =
    let cs = c.args.self.now.store.cells.items in
    let here = ap (λ e. sought c.args.kind (environment_of (meanings cs) e) c.loop-at.left) c.in-Cell.is in
    record { within = tt; found = sym c.loop-at.invariant.1 ∙ here ∙ walk_pair cs (cells_sound c.args.self.now) c.in-Cell.place c.args.kind c.in_default-cell.field-0 c.in_default-cell.field-1 c.loop-at.left c.in_default-cell.ensures }

pub returns-in_default-pass : goal.returns-in_default-pass
returns-in_default-pass c =
    let cs = c.args.self.now.store.cells.items in
    let here = ap (λ e. sought c.args.kind (environment_of (meanings cs) e) c.loop-at.left) c.in-Cell.is in
    let e = c.in-Binding.ensures in
    record {
      within = (walk_in cs (cells_sound c.args.self.now) c.in-Cell.place c.args.kind c.in-Binding.bound c.in-Binding.rest e).0;
      found = sym c.loop-at.invariant.1 ∙ here ∙ walk_here cs (cells_sound c.args.self.now) c.in-Cell.place c.args.kind c.in-Binding.bound c.in-Binding.rest e c.loop-at.left (sym c.in_default-pass.ensures);
    }

pub loop-at-smaller : goal.loop-at-smaller
loop-at-smaller c =
    let cs = c.args.self.now.store.cells.items in
    let w = (walk_in cs (cells_sound c.args.self.now) c.in-Cell.place c.args.kind c.in-Binding.bound c.in-Binding.rest c.in-Binding.ensures).2 in
    rw c.in-Cell.is w

pub loop-at-preserved : goal.loop-at-preserved
loop-at-preserved c =
    let cs = c.args.self.now.store.cells.items in
    let here = ap (λ e. sought c.args.kind (environment_of (meanings cs) e) c.loop-at.left) c.in-Cell.is in
    let e = c.in-Binding.ensures in (
      (walk_in cs (cells_sound c.args.self.now) c.in-Cell.place c.args.kind c.in-Binding.bound c.in-Binding.rest e).1,
      walk_on cs (cells_sound c.args.self.now) c.in-Cell.place c.args.kind c.in-Binding.bound c.in-Binding.rest e c.loop-at.left c.in-Some.fewer (sym c.in-Some.ensures) ∙ sym here ∙ c.loop-at.invariant.1,
    )
