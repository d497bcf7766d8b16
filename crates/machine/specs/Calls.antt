-- What a place for a machine holds, and what its calls answer and leave.
use Rattle.std.specs.Prelude.{ℕ, cond, List, Some, None, Ok, Err, Option as Maybe, Result, ◌==◌}
use Rattle.std.proofs.Math.Option.{Option, some, none as nothing}
use Rattle.lines.specs.Writing.{written, written_after}
use Rattle.lines.specs.declared.refusal.Refusal.{Refusal}
use Rattle.lines.specs.declared.refusal.Refusal.TheVariants.{Nothing, AnotherSheet, NotDone, Run as Stopped}
use Rattle.lines.specs.declared.refusal.RegisterFault.TheVariants.{Silent}
use Rattle.lines.specs.declared.refusal.StepFault.TheVariants.{Full, Register}
use Rattle.lines.specs.declared.refusal.Instrument.{Instrument as Named}
use Rattle.lines.specs.declared.refusal.Instrument.TheVariants.{Gauge, Gate}
use Rattle.lines.specs.declared.refusal.Table.{Table}
use Rattle.lines.specs.declared.refusal.Table.TheVariants.{Frames, Bindings, Pairs, Published, Kept}
use Rattle.instruments.specs.Sheets.{stations_of}
use Rattle.calculus.specs.Program.{Program}
use Rattle.calculus.specs.Step.{Instrument, a_gauge, a_gate}
use Rattle.calculus.specs.Calls.{RunAnswer, work_done, budget_spent, nothing_started, another_sheet, silent_register, no_places, no_rule, Reply, says, refuses}
use Rattle.calculus.specs.Marked.{Marked, start_marked, stand_marked, answer_marked, LogsAlike}
use Rattle.calculus.specs.Law.{LogsLawful}
use Rattle.checker.specs.Accepting.{Place as ProgramPlace}
use Rattle.checker.specs.Accepting.Place.{empty, full}
use Rattle.machine.specs.Meaning.{state_of}
use Rattle.machine.specs.Texts.{answer_line}
use Rattle.machine.specs.StandLine.{stand_line}
use Rattle.machine.specs.declared.parts.Run.{Run}
use Rattle.machine.specs.declared.parts.Run.TheVariants.{Done, Spent}
use Rattle.machine.specs.declared.place.Machine.{Machine}
use Rattle.machine.specs.declared.place.Started.{Started}

-- the machine's own copy of a program
abbrev pub program_of : Machine → Started → Program
program_of m d = record { sheet = stations_of d.sheet; types = m.types.items; terms = m.terms.items; start = d.start }

-- A place is empty, or full with a program, the state that the tables stand for, and the marks of the registers touched.
abbrev pub kept_machine : Machine → Maybe Started → Option Marked
kept_machine m (Some d) = some (record { program = program_of m d; state = state_of m.state; marks = m.marks })
kept_machine m None = nothing

abbrev pub place : Machine → Option Marked
place m = kept_machine m m.started

-- A start answers 25 where nothing was accepted.
abbrev pub start_answered : ProgramPlace → Result Unit Refusal
start_answered empty = Err Nothing
start_answered (full P A) = Ok tt

-- The place after a start: a new machine in the place of what was there, or as it was where nothing was accepted.
abbrev pub started_into : Option Marked → ProgramPlace → Option Marked
started_into q empty = q
started_into q (full P A) = some (start_marked P)

-- The law of logs, for the program that is started.
abbrev pub LawOf : ProgramPlace → Type 0
LawOf empty = Unit {0}
LawOf (full P A) = LogsLawful P A

-- The law of marks, for the program that is started.
abbrev pub MarksLawOf : ProgramPlace → Type 0
MarksLawOf empty = Unit {0}
MarksLawOf (full P A) = LogsAlike P

-- the table with a kind, by its number
abbrev pub table_of : ℕ → Table
table_of n = cond (n == 1) Frames (cond (n == 2) Bindings (cond (n == 3) Pairs (cond (n == 4) Published Kept)))

-- a kind of register, as a refusal names it
abbrev pub named : Instrument → Named
named a_gauge = Gauge
named a_gate = Gate

-- What a run answers, as its caller has it: done or spent with the count of steps, or the refusal. That a silent register is met
-- carries the works' own answer whole. An accepted program never comes to the last.
abbrev pub run_answered : RunAnswer → Result Run Refusal
run_answered (work_done n) = Ok (Done n)
run_answered (budget_spent n) = Ok (Spent n)
run_answered nothing_started = Err Nothing
run_answered (another_sheet s) = Err (AnotherSheet s)
run_answered (silent_register s κ g n) = Err (Stopped (record { fault = Register (record { instrument = named κ; fault = Silent s g }); site = s; steps = n }))
run_answered (no_places κ s n) = Err (Stopped (record { fault = Full (table_of κ); site = s; steps = n }))
run_answered no_rule = Err Nothing

-- the refusal of a call that only asks: 33 before work is done, else 25
abbrev pub unready : ℕ → Refusal
unready n = cond (n == 33) NotDone Nothing

-- What is said is written as a line, and a refusal leaves the buffer as it was.
module _ {A : Type 0} (line : A → List ℕ) where
  -- what the call answers: the length of the line, or the refusal
  abbrev pub replied : Reply A → List ℕ → Result ℕ Refusal
  replied (says a) out = written (line a) out
  replied (refuses n) out = Err (unready n)

  -- the buffer after it
  abbrev pub replied_after : Reply A → List ℕ → List ℕ
  replied_after (says a) out = written_after (line a) out
  replied_after (refuses n) out = out

-- What writing where a machine stands answers.
abbrev pub stand_written : Option Marked → List ℕ → Result ℕ Refusal
stand_written p = replied stand_line (stand_marked p)

-- the buffer after it
abbrev pub stand_after : Option Marked → List ℕ → List ℕ
stand_after p = replied_after stand_line (stand_marked p)

-- What writing the answer answers.
abbrev pub answer_written : Option Marked → List ℕ → Result ℕ Refusal
answer_written p = replied answer_line (answer_marked p)

-- the buffer after it
abbrev pub answer_after : Option Marked → List ℕ → List ℕ
answer_after p = replied_after answer_line (answer_marked p)
