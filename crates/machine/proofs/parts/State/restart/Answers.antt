use Rattle.std.proofs.Common.{sym, refl, ap, ◌∙◌}
use Rattle.calculus.specs.Machine
use Rattle.calculus.specs.Tables.{empty_table}
use Rattle.machine.proofs.Fresh.{begun_in, begun_means}
use Rattle.machine.proofs.parts.State.restart.Goals as goal

pub invariant_of-self : goal.invariant_of-self
invariant_of-self c = record { sound = ∣ begun_in c.clear.new.self c.args.stations c.args.start c.clear.ensures c.requires.few c.requires.within ∣₁ }

pub returns : goal.returns
returns c = record {
  stations = refl;
  means = λ P n e.
      begun_means c.clear.new.self c.clear.ensures P.sheet c.args.stations c.args.start n c.requires.few c.requires.within
      ∙ ap (λ w. Machine.state (record { published = empty_table P.sheet; kept = empty_table P.sheet }) w Machine.finish (Machine.eval 0 Machine.empty) (record { frames = 0; bindings = 0; pairs = 0 })) (sym e);
}
