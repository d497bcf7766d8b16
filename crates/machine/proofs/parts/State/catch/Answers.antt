use Rattle.std.proofs.Common.{refl}
use Rattle.std.proofs.lemmas.Result.{err_from_is_err_and}
use Rattle.calculus.specs.Step.{quiet}
use Rattle.lines.specs.declared.refusal.Table.TheVariants.{Kept}
use Rattle.machine.proofs.Rows.{catch_goes, kept_there}
use Rattle.machine.proofs.Room.{store_same, goes_on, ends_full, fits_binding_and_kept, lack_binding_and_kept}
use Rattle.machine.proofs.parts.State.catch.Goals as goal

pub returns-in_err-kept : goal.returns-in_err-kept
returns-in_err-kept c v =
    let s = c.args.self.now in
    let b = err_from_is_err_and c.from_residual-in_err-kept.result c.from_residual-in_err-kept.ensures.1 in
    let p = c.in_err-kept.ensures in
    rw (b.1, b.2) (ends_full s _ v v _ quiet _ _ Kept (store_same s _ p.2 _) p.0 (lack_binding_and_kept s c.in_ok-binding_room.ensures p.1))

pub bind-environment-requires : goal.bind-environment-requires
bind-environment-requires c = let t = kept_there c.args.self.now c.keep.new.self c.in_ok-kept.kept c.in_ok-kept.ensures c.args.part c.args.rest c.requires.rest c.in_ok-binding_room.ensures in record { store = t.0; room = t.1 }

pub invariant_of-self-2 : goal.invariant_of-self-2
invariant_of-self-2 c = record { sound = ∣ (catch_goes c.args.self.now c.keep.new.self c.in_ok-kept.kept c.in_ok-kept.ensures c.args.part c.args.rest c.requires.rest c.in_ok-binding_room.ensures c.bind-environment.new.self c.bind-environment.result c.bind-environment.ensures.is c.bind-environment.ensures.after).0 ∣₁ }

pub returns : goal.returns
returns c v =
    let g = catch_goes c.args.self.now c.keep.new.self c.in_ok-kept.kept c.in_ok-kept.ensures c.args.part c.args.rest c.requires.rest c.in_ok-binding_room.ensures c.bind-environment.new.self c.bind-environment.result c.bind-environment.ensures.is c.bind-environment.ensures.after in
    (refl, goes_on v _ _ quiet _ (fits_binding_and_kept c.args.self.now c.in_ok-binding_room.ensures c.in_ok-kept.ensures.0) g.1)
