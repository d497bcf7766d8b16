use Rattle.std.proofs.Common.{refl}
use Rattle.machine.proofs.Looks.{go_goes}
use Rattle.machine.proofs.Sound.{sound, moved}
use Rattle.machine.proofs.parts.State.go_on.Goals as goal

pub invariant_of-self : goal.invariant_of-self
invariant_of-self c = let s = c.args.self.now in record { sound = ∣ moved s s.site c.args.next c.args.phase (sound s).site_in c.requires ∣₁ }

pub returns : goal.returns
returns c v = (refl, go_goes c.args.self.now c.args.next c.args.phase v)
