-- Budgets add up: a run, and then a run from where it left machine and works.
use Rattle.std.proofs.Common.{◌≡◌, ℕ, zero, suc, ◌+◌, Bool, true, false, List, ◌∷◌, ◌++◌, sym, refl, ap, ◌∙◌, arith}
use mathlib.Core.Option.{Option, some, none as nothing}
use Rattle.calculus.specs.Machine
use Rattle.calculus.specs.Step.{Works, Event}
use Rattle.calculus.specs.Program.{Program}
use Rattle.calculus.specs.Limits.{lacks}
use Rattle.calculus.specs.Run.{Ending, done, spent, at_silent, at_full, broken, Result, stop, one_more, execute, touched_by, joined, then_if, then_run, RunsJoin}
use Rattle.calculus.specs.Calls.{Started, sheet_of, differing, answer_of, ran_to, run_unless, run_call, more_steps, run_after, then_call}
use Rattle.calculus.specs.Law.{CallsJoin}
use Rattle.calculus.proofs.Turns.{step_by, ends_done, ends_spent, goes_by}
use Rattle.calculus.proofs.Touched.{touched_in_a_row}
use Rattle.calculus.proofs.Sheets.{sheet_stays}

-- runs
module _ (P : Program) (v : Works) (M : Machine.State) where
  module _ (m : ℕ) where
    none_first : (d : Bool) → Machine.is_finished M ≡ d → execute P m v M ≡ then_run P m (execute P 0 v M)
    none_first true e = ends_done P v M m e ∙ ap (then_run P m) (sym (ends_done P v M 0 e))
    none_first false e =
        let r = execute P m v M in
        let z : r.steps ≡ 0 + r.steps = omega arith in
        let j : r ≡ joined (stop spent v M) r = λ i. record { ending = r.ending; steps = z i; events = r.events; works = r.works; end = r.end } in
        j ∙ ap (then_run P m) (sym (ends_spent P v M e))

    more_then : (e : Event) (r : Result) (x : Ending) → one_more e (then_if x P m r) ≡ then_if x P m (one_more e r)
    more_then e r done = refl
    more_then e r spent =
        let q = execute P m r.works r.end in
        let z : suc (r.steps + q.steps) ≡ suc r.steps + q.steps = omega arith in
        λ i. record { ending = q.ending; steps = z i; events = e ∷ (r.events ++ q.events); works = q.works; end = q.end }
    more_then e r (at_silent κ s n) = refl
    more_then e r (at_full κ s) = refl
    more_then e r broken = refl

    module _ (n : ℕ) (ih : (u : Works) (L : Machine.State) → execute P (n + m) u L ≡ then_run P m (execute P n u L)) where
      one_step : (o : Machine.Outcome) (l : Option ℕ) → step_by v M (execute P (n + m)) o l ≡ then_run P m (step_by v M (execute P n) o l)
      one_step (Machine.stepped L u e) nothing = ap (one_more e) (ih u L) ∙ more_then e (execute P n u L) (execute P n u L).ending
      one_step (Machine.stepped L u e) (some κ) = refl
      one_step (Machine.silent κ s k) l = refl
      one_step Machine.stuck l = refl

      some_first : (d : Bool) → Machine.is_finished M ≡ d → execute P (suc (n + m)) v M ≡ then_run P m (execute P (suc n) v M)
      some_first true e = ends_done P v M (suc (n + m)) e ∙ ap (then_run P m) (sym (ends_done P v M (suc n) e))
      some_first false e = goes_by P v M (n + m) e _ _ refl refl ∙ one_step (Machine.step P v M) (lacks P M) ∙ ap (then_run P m) (sym (goes_by P v M n e _ _ refl refl))

pub runs_join : RunsJoin
runs_join P zero m v M =
    let z : 0 + m ≡ m = omega arith in
    ap (λ k. execute P k v M) z ∙ none_first P v M m (Machine.is_finished M) refl
runs_join P (suc n) m v M =
    let z : suc n + m ≡ suc (n + m) = omega arith in
    ap (λ k. execute P k v M) z ∙ some_first P v M m n (λ u L. runs_join P n m u L) (Machine.is_finished M) refl

-- calls
pub answer_more : (k n : ℕ) (x : Ending) → answer_of x (k + n) ≡ more_steps k (answer_of x n)
answer_more k n done = refl
answer_more k n spent = refl
answer_more k n (at_silent κ s g) = refl
answer_more k n (at_full κ s) = refl
answer_more k n broken = refl

module _ (s : Started) (m : ℕ) where
  again : (r : Result) → differing s.program.sheet (sheet_of r.works) ≡ nothing → ran_to s (joined r (execute s.program m r.works r.end)) ≡ run_after r.steps (run_call (ran_to s r).place r.works m)
  again r e =
      let P = s.program in
      let q = execute P m r.works r.end in
      let k : Started = record { program = P; state = r.end; touched = touched_by r.events s.touched } in
      let a = answer_more r.steps q.steps q.ending in
      let t = touched_in_a_row r.events q.events s.touched in
      let j : ran_to s (joined r q) ≡ run_after r.steps (ran_to k q) = λ i. record { answer = a i; place = some (record { program = P; state = q.end; touched = t i }); works = q.works } in
      j ∙ ap (λ (o : Option ℕ). run_after r.steps (run_unless o k r.works m)) (sym e)

  by_ending : (x : Ending) (n : ℕ) (es : List Event) (u : Works) (L : Machine.State) → differing s.program.sheet (sheet_of u) ≡ nothing →
      ran_to s (then_run s.program m (record { ending = x; steps = n; events = es; works = u; end = L })) ≡ then_call m (ran_to s (record { ending = x; steps = n; events = es; works = u; end = L }))
  by_ending done n es u L e = refl
  by_ending spent n es u L e = again (record { ending = spent; steps = n; events = es; works = u; end = L }) e
  by_ending (at_silent κ w g) n es u L e = refl
  by_ending (at_full κ w) n es u L e = refl
  by_ending broken n es u L e = refl

  by_sheet : (v : Works) (n : ℕ) (o : Option ℕ) → differing s.program.sheet (sheet_of v) ≡ o → run_unless o s v (n + m) ≡ then_call m (run_unless o s v n)
  by_sheet v n nothing e =
      let P = s.program in
      let r = execute P n v s.state in
      ap (ran_to s) (runs_join P n m v s.state) ∙
      by_ending r.ending r.steps r.events r.works r.end (ap (differing P.sheet) (sheet_stays P n v s.state) ∙ e)
  by_sheet v n (some h) e = refl

pub calls_join : CallsJoin
calls_join nothing v n m = refl
calls_join (some s) v n m = by_sheet s m v n (differing s.program.sheet (sheet_of v)) refl
