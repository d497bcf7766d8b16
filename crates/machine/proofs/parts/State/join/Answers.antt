use Rattle.std.proofs.Common.{refl}
use Rattle.calculus.specs.Step.{quiet}
use Rattle.machine.proofs.Binds.{join_goes}
use Rattle.machine.proofs.Room.{goes_on, fits_pair}
use Rattle.machine.proofs.parts.State.join.Goals as goal

pub invariant_of-self : goal.invariant_of-self
invariant_of-self c =
    let s = c.args.self.now in
    let few = c.in_ok-pair_room.ensures in
    let g = join_goes s c.args.next c.requires.work.1 c.args.left c.args.right c.join-value.new.self c.join-value.result c.requires.left c.requires.work.0 few c.join-value.ensures.is c.join-value.ensures.after in
    record { sound = ∣ g.0 ∣₁ }

pub returns : goal.returns
returns c v =
    let s = c.args.self.now in
    let few = c.in_ok-pair_room.ensures in
    let g = join_goes s c.args.next c.requires.work.1 c.args.left c.args.right c.join-value.new.self c.join-value.result c.requires.left c.requires.work.0 few c.join-value.ensures.is c.join-value.ensures.after in
    (refl, goes_on v _ _ quiet _ (fits_pair s few) g.1)
