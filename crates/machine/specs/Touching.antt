-- Which register a step touches, and the marks after it.
use Rattle.std.specs.Prelude.{◌≡◌, ℕ, ◌<◌, ◌≤◌, [], ◌∷◌, length, Ok, Err, Some, None, Result, Option as Maybe}
use Rattle.std.proofs.Math.Option.{Option, some, none as nothing}
use Rattle.lines.specs.declared.refusal.Instrument.{Instrument as Named}
use Rattle.lines.specs.declared.refusal.StepFault.{StepFault}
use Rattle.syntax.specs.declared.program.Term.{Term as TermRow}
use Rattle.syntax.specs.declared.program.Term.TheVariants as Row
use Rattle.calculus.specs.Machine
use Rattle.calculus.specs.Program.{Program}
use Rattle.calculus.specs.Step.{Works}
use Rattle.calculus.specs.Tables.{row}
use Rattle.calculus.specs.Marks.{Marks, with_mark, marks_after}
use Rattle.calculus.specs.Run.Register.{register}
use Rattle.machine.specs.Meaning.{state_of}
use Rattle.machine.specs.Answers.{went, stepped_on, Lands, instrument_of}
use Rattle.machine.specs.declared.marking.Touched.{Touched}
use Rattle.machine.specs.declared.parts.State.{State}
use Rattle.machine.specs.declared.parts.Task.{Task}
use Rattle.machine.specs.declared.parts.Task.TheVariants as Does

-- The marks after a step: the register that it read or set is marked.
abbrev pub marked_by : Machine.Outcome → Marks → Marks
marked_by (Machine.stepped L u e) ms = marks_after (e ∷ []) ms
marked_by (Machine.silent κ s n) ms = ms
marked_by Machine.stuck ms = ms

-- A step that is taken marks what it touched; one that is not taken marks nothing.
abbrev pub StepMarks : {U : Type 0} → Result U StepFault → Machine.Outcome → Marks → Marks → Type 0
StepMarks (Ok x) o before after = after ≡ marked_by o before
StepMarks (Err e) o before after = after ≡ before

-- the gauge that a row reads
abbrev pub gauge_read : TermRow → Option ℕ
gauge_read (Row.Num n) = nothing
gauge_read (Row.Value i) = nothing
gauge_read (Row.Lam t b) = nothing
gauge_read (Row.App a b) = nothing
gauge_read (Row.Boxed b) = nothing
gauge_read (Row.Unbox a) = nothing
gauge_read (Row.Here a) = nothing
gauge_read (Row.Letd a b) = nothing
gauge_read (Row.Get f w a) = nothing
gauge_read (Row.Pair a b) = nothing
gauge_read (Row.Fst a) = nothing
gauge_read (Row.Snd a) = nothing
gauge_read (Row.Letcc t b) = nothing
gauge_read (Row.Throw t i a) = nothing
gauge_read (Row.Go t w a) = nothing
gauge_read (Row.Gauge n) = some n
gauge_read (Row.Gate n a) = nothing
gauge_read (Row.Below t a b x y) = nothing

-- the gate that a task sets
abbrev pub gate_set : Task → Option ℕ
gate_set (Does.Apply a e) = nothing
gate_set (Does.Applied f) = nothing
gate_set Does.Unbox = nothing
gate_set Does.Publish = nothing
gate_set (Does.Open b e) = nothing
gate_set (Does.Pair b e) = nothing
gate_set (Does.Paired a) = nothing
gate_set Does.First = nothing
gate_set Does.Second = nothing
gate_set (Does.Compare b x y e) = nothing
gate_set (Does.Compared a x y e) = nothing
gate_set (Does.Set n) = some n

-- a register of that kind, if there is a number of one
abbrev pub of_kind : Named → Option ℕ → Maybe Touched
of_kind κ nothing = None
of_kind κ (some n) = Some (record { instrument = κ; number = n })

-- the marks, with the mark of the register of a site that the code names, if it names one
abbrev pub with_touched : Maybe Touched → ℕ → Marks → Marks
with_touched None s ms = ms
with_touched (Some t) s ms = with_mark (register (instrument_of t.instrument) s t.number) ms

-- its number is one that a works may have
abbrev pub TouchedFits : Maybe Touched → Type 0
TouchedFits None = Unit {0}
TouchedFits (Some t) = t.number < 32

-- Whatever a works shows, the next step of a state marks this register of the site where work stands, or none; and a works of at
-- most 32 gauges and 32 gates at that site has it.
pub record Touches (P : Program) (s : State) (o : Maybe Touched) : Type 0 where
  pub marks : (v : Works) (L : Machine.State) (u : Works) → stepped_on v s P ≡ went L u → (ms : Marks) → marked_by (Machine.step P v (state_of s)) ms ≡ with_touched o s.site ms
  pub fits : (v : Works) → length (row v.gauges s.site) ≤ 32 → length (row v.gates s.site) ≤ 32 → Lands s.stations (Machine.step P v (state_of s)) → TouchedFits o
