use Rattle.std.proofs.Common.{refl}
use Rattle.std.proofs.lemmas.Result.{err_from_is_err_and}
use Rattle.calculus.specs.Step.{quiet}
use Rattle.lines.specs.declared.refusal.Table.TheVariants.{Published}
use Rattle.machine.proofs.Rows.{publish_goes}
use Rattle.machine.proofs.Room.{store_same, goes_on, ends_full, fits_published, lack_published}
use Rattle.machine.proofs.parts.State.publish.Goals as goal

pub returns-in_err-label : goal.returns-in_err-label
returns-in_err-label c v =
    let s = c.args.self.now in
    let b = err_from_is_err_and c.from_residual.result c.from_residual.ensures.1 in
    let p = c.in_err-label.ensures in
    rw (b.1, b.2) (ends_full s _ v v _ quiet _ _ Published (store_same s _ p.2 _) p.0 (lack_published s p.1))

pub invariant_of-self-2 : goal.invariant_of-self-2
invariant_of-self-2 c = record { sound = ∣ (publish_goes c.args.self.now c.args.value c.args.next c.publish.new.self c.in_ok-label.label c.requires.work c.in_ok-label.ensures).0 ∣₁ }

pub returns : goal.returns
returns c v =
    let s = c.args.self.now in
    let g = publish_goes s c.args.value c.args.next c.publish.new.self c.in_ok-label.label c.requires.work c.in_ok-label.ensures in
    (refl, goes_on v _ _ quiet _ (fits_published s c.in_ok-label.ensures.0) g.1)
