use Rattle.std.proofs.Common.{refl}
use Rattle.calculus.specs.Step.{quiet}
use Rattle.machine.proofs.Binds.{bind_goes}
use Rattle.machine.proofs.Room.{goes_on, fits_binding}
use Rattle.machine.proofs.parts.State.bind.Goals as goal

pub invariant_of-self : goal.invariant_of-self
invariant_of-self c =
    let s = c.args.self.now in
    let few = c.in_ok-binding_room.ensures in
    let g = bind_goes s c.args.next c.args.part c.requires.work.1 c.args.bound c.args.rest c.bind-environment.new.self c.bind-environment.result c.requires.bound c.requires.work.0 few c.bind-environment.ensures.is c.bind-environment.ensures.after in
    record { sound = ∣ g.0 ∣₁ }

pub returns : goal.returns
returns c v =
    let s = c.args.self.now in
    let few = c.in_ok-binding_room.ensures in
    let g = bind_goes s c.args.next c.args.part c.requires.work.1 c.args.bound c.args.rest c.bind-environment.new.self c.bind-environment.result c.requires.bound c.requires.work.0 few c.bind-environment.ensures.is c.bind-environment.ensures.after in
    (refl, goes_on v _ _ quiet _ (fits_binding s few) g.1)
