use Rattle.std.proofs.Common.{refl, ap}
use Rattle.calculus.specs.Machine
use Rattle.calculus.specs.Step.{quiet}
use Rattle.machine.specs.Answers.{answered, scope}
use Rattle.machine.specs.Meaning.{sites_of, places_of}
use Rattle.machine.specs.declared.parts.Continuation.TheVariants as Cont
use Rattle.machine.specs.declared.parts.Phase.TheVariants as Now
use Rattle.machine.proofs.Room.{fits_none}
use Rattle.machine.proofs.Sound.{moved}
use Rattle.machine.proofs.parts.State.leave.Goals as goal

pub invariant_of-self : goal.invariant_of-self
invariant_of-self c = record { sound = ∣ moved c.args.self.now c.args.site Cont.Abort (Now.Eval c.args.part c.args.environment) c.requires.within (c.requires.environment, tt) ∣₁ }

pub returns : goal.returns
returns c v =
    let s = c.args.self.now in (
      refl,
      ap (answered (Machine.stepped (Machine.state (sites_of s) c.args.site Machine.abort (Machine.eval c.args.part (scope s c.args.environment)) (places_of s)) v quiet)) (fits_none s),
    )
