use Rattle.std.proofs.Common.{refl}
use Rattle.std.proofs.lemmas.Result.{err_from_is_err_and}
use Rattle.calculus.specs.Step.{quiet}
use Rattle.lines.specs.declared.refusal.Table.TheVariants.{Frames}
use Rattle.machine.proofs.Frames.{push_goes}
use Rattle.machine.proofs.Room.{store_same, goes_on, ends_full, fits_frame, lack_frame}
use Rattle.machine.proofs.parts.State.push.Goals as goal

pub returns-in_err-self : goal.returns-in_err-self
returns-in_err-self c v =
    let s = c.args.self.now in
    let b = err_from_is_err_and c.from_residual.result c.from_residual.ensures.1 in
    let p = c.in_err-self.ensures in
    rw (b.1, b.2) (ends_full s _ v v _ quiet _ _ Frames (store_same s _ p.2 _) p.0 (lack_frame s p.1))

pub invariant_of-self-2 : goal.invariant_of-self-2
invariant_of-self-2 c =
    let s = c.args.self.now in
    let p = c.in_ok-self.ensures in
    let g = push_goes s c.args.task c.args.next c.args.part c.args.environment c.requires.task c.requires.work.1 c.requires.work.0 c.push_frame.new.self p.1.1 p.0 in
    rw p.1.0 (record { sound = ∣ g.0 ∣₁ })

pub returns : goal.returns
returns c v =
    let s = c.args.self.now in
    let p = c.in_ok-self.ensures in
    let g = push_goes s c.args.task c.args.next c.args.part c.args.environment c.requires.task c.requires.work.1 c.requires.work.0 c.push_frame.new.self p.1.1 p.0 in
    rw p.1.0 (refl, goes_on v _ _ quiet _ (fits_frame s p.0) g.1)
