-- A state of a typed program is safe for ever.
use Rattle.std.proofs.Common.{◌≡◌, ℕ, zero, suc, ◌<◌, Bool, true, false, length, sym, refl, ap, ◌∙◌, subst}
use Rattle.calculus.specs.Types.{Ty}
use Rattle.calculus.specs.Machine
use Rattle.calculus.specs.Program.{Program, WellTyped}
use Rattle.calculus.specs.Step.{Works, Event, step}
use Rattle.calculus.specs.NetworkTyping.{Agrees}
use Rattle.calculus.specs.Meaning.{network_of, outcome_of}
use Rattle.calculus.specs.Simulation.{StateTyped, StatesTyped}
use Rattle.calculus.specs.Theorems.{SheetStays}
use Rattle.machine.specs.Answers.{of_terms}
use Rattle.machine.specs.Safe.{Onward, SafeFor, Safe, Holds}
use Rattle.machine.specs.Meaning.{state_of}
use Rattle.machine.specs.declared.parts.State.{State}
use mathlib.Core.Option.{Option, some, none as nothing}
use Rattle.calculus.specs.Limits.{lacks}
use Rattle.calculus.proofs.Turns.{run_by}
use Rattle.calculus.specs.Run.{Result, one_more, execute}

-- a step sees the terms of a program only
frame_terms : (P : Program) (v : Works) (H : Machine.Sites) (w : ℕ) (c : Machine.Places) (u : Machine.Value) (k : Machine.Continuation) → Machine.back_step v H w c (of_terms P.terms) u k ≡ Machine.back_step v H w c P u k
frame_terms P v H w c u Machine.finish = refl
frame_terms P v H w c u Machine.abort = refl
frame_terms P v H w c u (Machine.return s d) = refl
frame_terms P v H w c u (Machine.push (Machine.to_apply a ρ) k) = refl
frame_terms P v H w c u (Machine.push (Machine.applied f) k) = refl
frame_terms P v H w c u (Machine.push Machine.unboxing k) = refl
frame_terms P v H w c u (Machine.push Machine.publishing k) = refl
frame_terms P v H w c u (Machine.push (Machine.opening a ρ) k) = refl
frame_terms P v H w c u (Machine.push (Machine.to_pair a ρ) k) = refl
frame_terms P v H w c u (Machine.push (Machine.paired a) k) = refl
frame_terms P v H w c u (Machine.push Machine.first k) = refl
frame_terms P v H w c u (Machine.push Machine.second k) = refl
frame_terms P v H w c u (Machine.push (Machine.to_compare a x y ρ) k) = refl
frame_terms P v H w c u (Machine.push (Machine.compared a x y ρ) k) = refl
frame_terms P v H w c u (Machine.push (Machine.setting g) k) = refl

pub step_terms : (P : Program) (v : Works) (M : Machine.State) → Machine.step (of_terms P.terms) v M ≡ Machine.step P v M
step_terms P v (Machine.state H w k (Machine.eval p ρ) c) = refl
step_terms P v (Machine.state H w k (Machine.back u) c) = frame_terms P v H w c u k

-- work stands at a site of the sheet
stands : (P : Program) (A : Ty) (M : Machine.State) → StateTyped P A M → Machine.stands_at M < length P.sheet
stands P A (Machine.state H w k p c) h = h.1.1.known

onward : (o p : Machine.Outcome) (Q : Machine.State → Works → Type 0) → p ≡ o → (o ≡ Machine.stuck → ⊥) → ((L : Machine.State) (u : Works) (e : Event) → o ≡ Machine.stepped L u e → Q L u) → Onward p Q
onward (Machine.stepped L u e) p Q q n f = subst (λ x. Onward x Q) (sym q) (f L u e refl)
onward (Machine.silent κ s m) p Q q n f = subst (λ x. Onward x Q) (sym q) tt
onward Machine.stuck p Q q n f = absurd (n refl)

module _ (P : Program) (A : Ty) (T : StatesTyped P A) (sim : (v : Works) (M : Machine.State) → step v (network_of P M) ≡ outcome_of P (Machine.step P v M)) (stays : SheetStays) where
  safe_for : (k : ℕ) (M : Machine.State) → StateTyped P A M → SafeFor k (of_terms P.terms) P.sheet M
  safe_for zero M h = tt
  safe_for (suc k) M h = λ v a on.
      onward (Machine.step P v M) (Machine.step (of_terms P.terms) v M) (λ L u. (Machine.stands_at L < length P.sheet) × Agrees P.sheet u × SafeFor k (of_terms P.terms) P.sheet L) (step_terms P v M)
      (λ e. T.unstuck v M a h on e)
      (λ L u e q.
      let t = T.step v u M L e h q in
      (stands P A L t, stays P.sheet v (network_of P M) (network_of P L) u e a (sim v M ∙ ap (outcome_of P) q), safe_for k L t))

  -- A state of a typed program is safe.
  pub typed_safe : (M : Machine.State) → StateTyped P A M → Safe (of_terms P.terms) P.sheet M
  typed_safe M h k = safe_for k M h

-- A started program of a type is safe: this is what a start owes.
pub started_holds : (P : Program) (A : Ty) (s : State) → StatesTyped P A → ((v : Works) (M : Machine.State) → step v (network_of P M) ≡ outcome_of P (Machine.step P v M)) → SheetStays → WellTyped P A → s.stations ≡ length P.sheet → state_of s ≡ Machine.started P → Holds (of_terms P.terms) P.sheet s
started_holds P A s T sim stays typed n e = record {
  stations_are = n;
  safe = typed_safe P A T sim stays (state_of s) (subst (StateTyped P A) (sym e) (T.start typed));
}

lacks_terms : (P : Program) (M : Machine.State) → lacks (of_terms P.terms) M ≡ lacks P M
lacks_terms P (Machine.state H w k (Machine.eval p ρ) c) = refl
lacks_terms P (Machine.state H w k (Machine.back u) c) = refl

-- a run goes as its rest does
run_same : (v : Works) (M : Machine.State) (f g : Works → Machine.State → Result) → ((u : Works) (L : Machine.State) → f u L ≡ g u L) → (d : Bool) (o : Machine.Outcome) (l : Option ℕ) → run_by v M f d o l ≡ run_by v M g d o l
run_same v M f g same true o l = refl
run_same v M f g same false (Machine.stepped L u e) nothing = ap (one_more e) (same u L)
run_same v M f g same false (Machine.stepped L u e) (some k) = refl
run_same v M f g same false (Machine.silent κ s n) l = refl
run_same v M f g same false Machine.stuck l = refl

-- a run sees the terms of a program only
pub execute_terms : (P : Program) (b : ℕ) (v : Works) (M : Machine.State) → execute (of_terms P.terms) b v M ≡ execute P b v M
execute_terms P zero v M = refl
execute_terms P (suc b) v M =
    (λ i. run_by v M (execute (of_terms P.terms) b) (Machine.is_finished M) (step_terms P v M i) (lacks_terms P M i))
    ∙ run_same v M (execute (of_terms P.terms) b) (execute P b) (λ u L. execute_terms P b u L) (Machine.is_finished M) (Machine.step P v M) (lacks P M)
