-- What holds of a started machine holds in one way.
use Rattle.std.proofs.Common.{ℕ, zero, suc}
use mathlib.Core.HLevel.{⊥_prop, Unit-prop, Π_prop}
use native.Mathlib.Bridge.{le_prop}
use native.Mathlib.Nat.{ℕ_set}
use Rattle.calculus.specs.Types.{Sheet}
use Rattle.calculus.specs.Program.{Program}
use Rattle.calculus.specs.Machine
use Rattle.calculus.specs.Step.{Works}
use Rattle.calculus.specs.NetworkTyping.{Agrees}
use Rattle.machine.specs.Meaning.{state_of}
use Rattle.machine.specs.Safe.{Onward, SafeFor, Holds}
use Rattle.machine.specs.declared.parts.State.{State}

agrees_prop : (S : Sheet) (v : Works) → IsProp (Agrees S v)
agrees_prop S v a b = λ i. record {
  gauges = Π_prop (λ s. ℕ_set _ _) a.gauges b.gauges i;
  gates = Π_prop (λ s. ℕ_set _ _) a.gates b.gates i;
}

onward_prop : (o : Machine.Outcome) (Q : Machine.State → Works → Type 0) → ((L : Machine.State) (u : Works) → IsProp (Q L u)) → IsProp (Onward o Q)
onward_prop (Machine.stepped L u e) Q h = h L u
onward_prop (Machine.silent κ s n) Q h = Unit-prop
onward_prop Machine.stuck Q h = ⊥_prop

safe_for_prop : (k : ℕ) (P : Program) (S : Sheet) (M : Machine.State) → IsProp (SafeFor k P S M)
safe_for_prop zero P S M = Unit-prop
safe_for_prop (suc k) P S M =
    Π_prop (λ v. Π_prop (λ a. Π_prop (λ on. onward_prop (Machine.step P v M) _ (λ L u x y. λ i. (le_prop x.0 y.0 i, agrees_prop S u x.1 y.1 i, safe_for_prop k P S L x.2 y.2 i)))))

pub holds_prop : (P : Program) (S : Sheet) (s : State) → IsProp (Holds P S s)
holds_prop P S s a b = λ i. record {
  stations_are = ℕ_set _ _ a.stations_are b.stations_are i;
  safe = Π_prop (λ k. safe_for_prop k P S (state_of s)) a.safe b.safe i;
}
