use Rattle.std.proofs.Common.{refl}
use Rattle.std.proofs.lemmas.Result.{err_from_is_err_and}
use Rattle.calculus.specs.Step.{quiet}
use Rattle.lines.specs.declared.refusal.Table.TheVariants.{Kept}
use Rattle.machine.proofs.Rows.{get_goes}
use Rattle.machine.proofs.Room.{store_same, goes_on, ends_full, fits_kept, lack_kept}
use Rattle.machine.proofs.parts.State.get.Goals as goal

pub returns-in_err-kept : goal.returns-in_err-kept
returns-in_err-kept c v =
    let s = c.args.self.now in
    let b = err_from_is_err_and c.from_residual.result c.from_residual.ensures.1 in
    let p = c.in_err-kept.ensures in
    rw (b.1, b.2) (ends_full s _ v v _ quiet _ _ Kept (store_same s _ p.2 _) p.0 (lack_kept s p.1))

pub invariant_of-self-2 : goal.invariant_of-self-2
invariant_of-self-2 c = record { sound = ∣ (get_goes c.args.self.now c.keep.new.self c.in_ok-kept.kept c.in_ok-kept.ensures c.args.part c.args.environment c.requires.environment c.args.site c.requires.within).0 ∣₁ }

pub returns : goal.returns
returns c v =
    let g = get_goes c.args.self.now c.keep.new.self c.in_ok-kept.kept c.in_ok-kept.ensures c.args.part c.args.environment c.requires.environment c.args.site c.requires.within in
    (refl, goes_on v _ _ quiet _ (fits_kept c.args.self.now c.in_ok-kept.ensures.0) g.1)
