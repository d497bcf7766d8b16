use Rattle.std.proofs.Common.{refl, arith}
use Rattle.calculus.specs.Step.{quiet}
use Rattle.machine.proofs.Binds.{open_goes, world_grown}
use Rattle.machine.proofs.Room.{goes_on, fits_two}
use Rattle.machine.proofs.parts.State.open.Goals as goal

pub bind-environment-requires : goal.bind-environment-requires
bind-environment-requires c =
    let few = c.in_ok-binding_room.ensures in
    let G = world_grown c.args.self.now c.args.next c.args.part c.requires.work.1 c.args.site c.args.rest c.bind-world.new.self c.requires.work.0 (omega arith) c.bind-world.ensures.after in
    let b = G.bindings_are in
    record { store = G.store_in; room = omega arith }

pub invariant_of-self : goal.invariant_of-self
invariant_of-self c =
    let s = c.args.self.now in
    let few = c.in_ok-binding_room.ensures in
    let g = open_goes s c.args.next c.args.part c.requires.work.1 c.args.site c.args.label c.args.rest c.bind-world.new.self c.bind-environment.new.self c.bind-world.result c.bind-environment.result c.requires.work.0 few c.bind-world.ensures.is c.bind-world.ensures.after c.bind-environment.ensures.is c.bind-environment.ensures.after in
    record { sound = ∣ g.0 ∣₁ }

pub returns : goal.returns
returns c v =
    let s = c.args.self.now in
    let few = c.in_ok-binding_room.ensures in
    let g = open_goes s c.args.next c.args.part c.requires.work.1 c.args.site c.args.label c.args.rest c.bind-world.new.self c.bind-environment.new.self c.bind-world.result c.bind-environment.result c.requires.work.0 few c.bind-world.ensures.is c.bind-world.ensures.after c.bind-environment.ensures.is c.bind-environment.ensures.after in
    (refl, goes_on v _ _ quiet _ (fits_two s few) g.1)
