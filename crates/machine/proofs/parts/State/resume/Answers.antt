use Rattle.std.proofs.Common.{◌≡◌, true, false, refl, sym, ap, ◌∙◌, arith}
use Rattle.machine.specs.Answers.{is_some}
use Rattle.machine.proofs.Looks.{kept_within, kept_read, kept_missing, resume_goes}
use Rattle.machine.proofs.Sound.{sound, moved}
use Rattle.machine.proofs.parts.State.resume.Goals as goal

pub kept-requires : goal.kept-requires
kept-requires c =
    let s = c.args.self.now in
    let w = kept_within s c.args.site c.args.kept c.requires.found in
    let a = (sound s).store_in.rows_are in
    let b = (sound s).stations_few in
    omega arith

pub unreachable-requires : goal.unreachable-requires
unreachable-requires c =
    let s = c.args.self.now in
    let p = c.in-None.ensures in
    let e = kept_missing s c.args.site (kept_within s c.args.site c.args.kept c.requires.found) p.0 p.1 c.args.kept p.2 in
    let z : false ≡ true = sym (ap is_some e) ∙ c.requires.found in
    grind arith

pub invariant_of-self : goal.invariant_of-self
invariant_of-self c =
    let s = c.args.self.now in
    let p = c.in-Some.ensures in
    let k = ((sound s).store_in.rows_in c.args.site p.0 p.1).kept_in c.args.kept c.in-Some.continuation (sym p.2) in
    record { sound = ∣ moved s c.args.site c.in-Some.continuation c.args.phase (kept_within s c.args.site c.args.kept c.requires.found) (c.requires.phase, k) ∣₁ }

pub returns : goal.returns
returns c v =
    let s = c.args.self.now in
    let p = c.in-Some.ensures in
    let w = kept_within s c.args.site c.args.kept c.requires.found in
    (refl, resume_goes s c.args.site c.args.kept c.in-Some.continuation c.args.phase v (kept_read s c.args.site w p.0 p.1 c.args.kept c.in-Some.continuation p.2))
