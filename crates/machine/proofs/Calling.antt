-- What a run of a machine in its place answers and leaves.
use Rattle.std.proofs.Common.{◌≡◌, ℕ, false, Ok, Err, Result, sym, refl, ap, ◌∙◌, arith}
use mathlib.Core.Option.{some, none as nothing}
use Rattle.lines.specs.declared.refusal.Refusal.{Refusal}
use Rattle.lines.specs.declared.refusal.Refusal.TheVariants.{Run as Stopped}
use Rattle.lines.specs.declared.refusal.RegisterFault.{RegisterFault}
use Rattle.lines.specs.declared.refusal.RegisterFault.TheVariants.{NotFitted, Silent}
use Rattle.lines.specs.declared.refusal.StepFault.{StepFault}
use Rattle.lines.specs.declared.refusal.StepFault.TheVariants.{Full, Register}
use Rattle.lines.specs.declared.refusal.RunFault.{RunFault}
use Rattle.lines.specs.declared.refusal.Instrument.{Instrument as Coded}
use Rattle.lines.specs.declared.refusal.Instrument.TheVariants.{Gauge, Gate}
use Rattle.lines.specs.declared.refusal.Table.{Table}
use Rattle.lines.specs.declared.refusal.Table.TheVariants.{Frames, Bindings, Pairs, Published, Kept}
use Rattle.calculus.specs.Machine
use Rattle.calculus.specs.Step.{Works}
use Rattle.calculus.specs.Run.{execute}
use Rattle.calculus.specs.Marks.{Marks}
use Rattle.calculus.specs.Marked.{Marked, MarkedCall, run_marked}
use Rattle.calculus.specs.Calls.{sheet_of, differing, answer_of, answer_from, refuses}
use Rattle.calculus.proofs.Marked.{marked_to, run_same}
use Rattle.machine.specs.Answers.{of_terms, instrument_of, kind}
use Rattle.machine.specs.Runs.{fault_ending, Ran, ran, ran_by, Told}
use Rattle.machine.specs.Calls.{table_of, named, run_answered}
use Rattle.machine.proofs.Typed.{execute_terms}
use Rattle.machine.specs.declared.parts.Run.{Run}
use Rattle.machine.specs.declared.parts.Run.TheVariants.{Done, Spent}

-- the fault of a run as a refusal
abbrev pub refused : Result Run RunFault → Result Run Refusal
refused (Ok r) = Ok r
refused (Err f) = Err (Stopped f)

table_named : (k : Table) → k ≡ table_of (kind k)
table_named Frames = refl
table_named Bindings = refl
table_named Pairs = refl
table_named Published = refl
table_named Kept = refl

instrument_again : (i : Coded) → i ≡ named (instrument_of i)
instrument_again Gauge = refl
instrument_again Gate = refl

tell_register : (i : Coded) (f : RegisterFault) (w n : ℕ) → Told (Err (record { fault = Register (record { instrument = i; fault = f }); site = w; steps = n })) →
    refused (Err (record { fault = Register (record { instrument = i; fault = f }); site = w; steps = n })) ≡ run_answered (answer_of (fault_ending (Register (record { instrument = i; fault = f })) w) n)
tell_register i (Silent x k) w n t = λ j. Err (Stopped (record { fault = Register (record { instrument = instrument_again i j; fault = Silent x k }); site = sym t j; steps = n }))
tell_register i (NotFitted x k) w n t = absurd t

tell_fault : (f : StepFault) (w n : ℕ) → Told (Err (record { fault = f; site = w; steps = n })) → refused (Err (record { fault = f; site = w; steps = n })) ≡ run_answered (answer_of (fault_ending f w) n)
tell_fault (Full k) w n t = ap (λ x. Err (Stopped (record { fault = Full x; site = w; steps = n }))) (table_named k)
tell_fault (Register u) w n t = tell_register u.instrument u.fault w n t

tells : (r : Result Run RunFault) (M : Machine.State) (u : Works) (ms : Marks) → Told r → refused r ≡ run_answered (answer_of (ran r M u ms).ending (ran r M u ms).steps)
tells (Ok (Done n)) M u ms t = refl
tells (Ok (Spent n)) M u ms t = refl
tells (Err f) M u ms t = tell_fault f.fault f.site f.steps t

-- a run on a works of the machine's sheet
module _ (X : Marked) (v : Works) (b : ℕ) (same : nothing ≡ differing X.program.sheet (sheet_of v)) (r : Result Run RunFault) (M : Machine.State) (u : Works) (ms : Marks) (told : Told r)
    (is : ran r M u ms ≡ ran_by X.marks (execute (of_terms X.program.terms) b v X.state)) where
  whole : run_marked (some X) v b ≡ marked_to X (execute X.program b v X.state)
  whole = run_same X v b (sym same)

  exact : ran r M u ms ≡ ran_by X.marks (execute X.program b v X.state)
  exact = is ∙ ap (ran_by X.marks) (execute_terms X.program b v X.state)

  pub run_value : refused r ≡ run_answered (run_marked (some X) v b).answer
  run_value = tells r M u ms told ∙ ap (λ (x : Ran). run_answered (answer_of x.ending x.steps)) exact ∙ sym (ap (λ (c : MarkedCall). run_answered c.answer) whole)

  pub run_place : some (record { program = X.program; state = M; marks = ms }) ≡ (run_marked (some X) v b).place
  run_place = (λ i. some (record { program = X.program; state = at_end r i; marks = at_marks r i })) ∙ ap (λ (x : Ran). some (record { program = X.program; state = x.end; marks = x.marks })) exact ∙ sym (ap (λ (c : MarkedCall). c.place) whole)
    where
      at_end : (q : Result Run RunFault) → M ≡ (ran q M u ms).end
      at_end (Ok (Done n)) = refl
      at_end (Ok (Spent n)) = refl
      at_end (Err f) = refl

      at_marks : (q : Result Run RunFault) → ms ≡ (ran q M u ms).marks
      at_marks (Ok (Done n)) = refl
      at_marks (Ok (Spent n)) = refl
      at_marks (Err f) = refl

  pub run_works : u ≡ (run_marked (some X) v b).works
  run_works = at_works r ∙ ap (λ (x : Ran). x.works) exact ∙ sym (ap (λ (c : MarkedCall). c.works) whole)
    where
      at_works : (q : Result Run RunFault) → u ≡ (ran q M u ms).works
      at_works (Ok (Done n)) = refl
      at_works (Ok (Spent n)) = refl
      at_works (Err f) = refl

-- a machine that is not done has no answer
pub no_answer : (M : Machine.State) → false ≡ Machine.is_finished M → answer_from M ≡ refuses 33
no_answer (Machine.state H w Machine.finish (Machine.back u) c) e = absurd (grind (arith, e))
no_answer (Machine.state H w Machine.abort (Machine.back u) c) e = refl
no_answer (Machine.state H w (Machine.return s d) (Machine.back u) c) e = refl
no_answer (Machine.state H w (Machine.push f k) (Machine.back u) c) e = refl
no_answer (Machine.state H w k (Machine.eval p ρ) c) e = refl
