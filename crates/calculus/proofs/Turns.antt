-- A run by its first turn: whether work is done, what the step gives, and what places that lacks.
use Rattle.std.proofs.Common.{◌≡◌, ℕ, zero, suc, Bool, true, false, ap}
use mathlib.Core.Option.{Option, some, none as nothing}
use Rattle.calculus.specs.Machine
use Rattle.calculus.specs.Step.{Works, Event}
use Rattle.calculus.specs.Program.{Program}
use Rattle.calculus.specs.Limits.{lacks}
use Rattle.calculus.specs.Run.{done, spent, at_silent, at_full, broken, Result, stop, one_more, execute}

module _ (v : Works) (M : Machine.State) where
  -- with nothing left of the budget
  abbrev pub none_by : Bool → Result
  none_by d = elim d as (λ _. Result) [ true ↦ stop done v M | false ↦ stop spent v M ]

  -- a step that there is, and then the rest
  abbrev pub went_by : Event → Result → Option ℕ → Result
  went_by e r l = elim l as (λ _. Result) [ nothing ↦ one_more e r | some κ ↦ stop (at_full κ (Machine.stands_at M)) v M ]

  module _ (next : Works → Machine.State → Result) where
    abbrev pub step_by : Machine.Outcome → Option ℕ → Result
    step_by o l = elim o as (λ _. Result) [ Machine.stepped L u e ↦ went_by e (next u L) l | Machine.silent κ s n ↦ stop (at_silent κ s n) v M | Machine.stuck ↦ stop broken v M ]

    abbrev pub run_by : Bool → Machine.Outcome → Option ℕ → Result
    run_by d o l = elim d as (λ _. Result) [ true ↦ stop done v M | false ↦ step_by o l ]

module _ (P : Program) (v : Works) (M : Machine.State) where
  pub ends_done : (b : ℕ) → Machine.is_finished M ≡ true → execute P b v M ≡ stop done v M
  ends_done zero e = ap (none_by v M) e
  ends_done (suc b) e = ap (λ d. run_by v M (execute P b) d (Machine.step P v M) (lacks P M)) e

  pub ends_spent : Machine.is_finished M ≡ false → execute P 0 v M ≡ stop spent v M
  ends_spent e = ap (none_by v M) e

  pub goes_by : (b : ℕ) → Machine.is_finished M ≡ false → (o : Machine.Outcome) (l : Option ℕ) → Machine.step P v M ≡ o → lacks P M ≡ l → execute P (suc b) v M ≡ step_by v M (execute P b) o l
  goes_by b on o l p q = λ i. run_by v M (execute P b) (on i) (p i) (q i)
