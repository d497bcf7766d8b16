-- A started machine that holds marks in the place of the list of registers touched, and its calls, by those of a machine that
-- holds the list.
use Rattle.std.specs.Prelude.{◌≡◌, ℕ, ◌+◌, ◌≤◌, List, [], ◌∷◌, length}
use Rattle.std.proofs.Math.Option.{Option, some, none as nothing}
use Rattle.calculus.specs.Machine
use Rattle.calculus.specs.Types.{Sheet, gauges_there, gates_there}
use Rattle.calculus.specs.Step.{Works}
use Rattle.calculus.specs.Program.{Program}
use Rattle.calculus.specs.Run.{execute, Stand}
use Rattle.calculus.specs.Calls.{Started, sheet_of, differing, RunAnswer, work_done, budget_spent, nothing_started, another_sheet, silent_register, no_places, no_rule, RunCall, run_call, more_steps, Reply, says, refuses, stand_call, answer_call, start_of, Line, ran, stood, answered, place_after}
use Rattle.calculus.specs.Marks.{Marks, no_marks, marks_after, marks_set, Tells}

-- A started machine: its own copy of the program, its state, and the marks of the registers touched since the start.
pub record Marked : Type 0 where
  pub program : Program
  pub state : Machine.State
  pub marks : Marks

-- the program and the state in a place, with no register touched
abbrev pub bare : Option Marked → Option Started
bare nothing = nothing
bare (some m) = some (record { program = m.program; state = m.state; touched = [] })

-- a machine that has just been started, no mark set
abbrev pub start_marked : Program → Marked
start_marked P = record { program = P; state = Machine.started P; marks = no_marks }

-- a place with these marks in the place of its list
abbrev pub with_marks : Marks → Option Started → Option Marked
with_marks ms nothing = nothing
with_marks ms (some k) = some (record { program = k.program; state = k.state; marks = ms })

-- the marks after a run, which touches nothing where the sheets differ
abbrev pub marks_unless : Option ℕ → Marked → Works → ℕ → Marks
marks_unless nothing m v b = marks_after (execute m.program b v m.state).events m.marks
marks_unless (some s) m v b = m.marks

-- The marks that a run leaves: as they were where the works has another sheet, else with those of the registers that its steps touched.
abbrev pub marks_left : Marked → Works → ℕ → Marks
marks_left m v b = marks_unless (differing m.program.sheet (sheet_of v)) m v b

-- What a run leaves: its answer, the machine's place and the works.
pub record MarkedCall : Type 0 where
  pub answer : RunAnswer
  pub place : Option Marked
  pub works : Works

-- a run of a machine with a list, with these marks in the place of what it lists
abbrev pub marked_call : Marks → RunCall → MarkedCall
marked_call ms r = record { answer = r.answer; place = with_marks ms r.place; works = r.works }

-- A run answers and leaves what that of the bare machine does, with the marks that it leaves in the place of a list.
abbrev pub run_marked : Option Marked → Works → ℕ → MarkedCall
run_marked nothing v b = record { answer = nothing_started; place = nothing; works = v }
run_marked (some m) v b = marked_call (marks_left m v b) (run_call (bare (some m)) v b)

-- a run after k steps
abbrev pub marked_after_steps : ℕ → MarkedCall → MarkedCall
marked_after_steps k r = record { answer = more_steps k r.answer; place = r.place; works = r.works }

-- a call that was answered so, and then, if its budget was spent, a call with budget m on the place and the works that it left
abbrev pub marked_if : RunAnswer → ℕ → MarkedCall → MarkedCall
marked_if (work_done n) m r = r
marked_if (budget_spent n) m r = marked_after_steps n (run_marked r.place r.works m)
marked_if nothing_started m r = r
marked_if (another_sheet s) m r = r
marked_if (silent_register s κ g n) m r = r
marked_if (no_places κ s n) m r = r
marked_if no_rule m r = r

-- a call, and then one with budget m, if its budget was spent
abbrev pub then_marked : ℕ → MarkedCall → MarkedCall
then_marked m r = marked_if r.answer m r

-- a stand that tells so many registers touched
abbrev pub telling : ℕ → Reply Stand → Reply Stand
telling n (says t) = says (record { site = t.site; phase = t.phase; frames = t.frames; kept = t.kept; published = t.published; touched = n })
telling n (refuses k) = refuses k

-- where the machine stands, with as many registers touched as marks are set; refused where nothing was started
abbrev pub stand_marked : Option Marked → Reply Stand
stand_marked nothing = refuses 25
stand_marked (some m) = telling (marks_set m.marks) (stand_call (bare (some m))).reply

-- the answer, whatever the marks
abbrev pub answer_marked : Option Marked → Reply Machine.Value
answer_marked p = (answer_call (bare p)).reply

-- the machine's place after a line
abbrev pub marked_after : Option Marked → Line → Option Marked
marked_after p (ran v b) = (run_marked p v b).place
marked_after p stood = p
marked_after p answered = p

-- the machine's place after a log
abbrev pub marked_log : Option Marked → List Line → Option Marked
marked_log p [] = p
marked_log p (l ∷ ls) = marked_log (marked_after p l) ls

-- the same of a machine that holds the list
abbrev pub place_log : Option Started → List Line → Option Started
place_log p [] = p
place_log p (l ∷ ls) = place_log (place_after p l) ls

-- Two places are alike: both are empty, or they hold one program and one state, and the marks of the one tell the list of the other.
abbrev pub Alike : Option Started → Option Marked → Type 0
Alike nothing nothing = Unit {0}
Alike nothing (some m) = ⊥
Alike (some k) nothing = ⊥
Alike (some k) (some m) = (k.program ≡ m.program) × (k.state ≡ m.state) × Tells m.marks k.touched

-- what two places say and do alike: where they stand, what they answer, and what a run answers and leaves of the works
pub record SaysAlike (p : Option Started) (q : Option Marked) : Type 0 where
  pub alike : Alike p q
  pub stand : stand_marked q ≡ (stand_call p).reply
  pub answer : answer_marked q ≡ (answer_call p).reply
  pub runs : (v : Works) (b : ℕ) → ((run_marked q v b).answer ≡ (run_call p v b).answer) × ((run_marked q v b).works ≡ (run_call p v b).works)

-- a sheet within the limits: at most 16 sites, each with at most 32 gauges and 32 gates
abbrev pub OnLimits : Sheet → Type 0
OnLimits S = (length S ≤ 16) × ((s : ℕ) → (gauges_there S s ≤ 32) × (gates_there S s ≤ 32))

-- the program in a place has a sheet within the limits
abbrev pub PlaceOnLimits : Option Marked → Type 0
PlaceOnLimits nothing = Unit {0}
PlaceOnLimits (some m) = OnLimits m.program.sheet

-- Places that are alike say and do alike, and stay alike, line by line.
abbrev pub LineAlike : Type 0
LineAlike = (p : Option Started) (q : Option Marked) → Alike p q → PlaceOnLimits q → (l : Line) →
    SaysAlike p q × Alike (place_after p l) (marked_after q l) × PlaceOnLimits (marked_after q l)

-- whatever lines follow a program's start, the machine with marks and the one with the list say and do alike
abbrev pub LogsAlike : Program → Type 0
LogsAlike P = (log : List Line) → SaysAlike (place_log (some (start_of P)) log) (marked_log (some (start_marked P)) log)

-- The law of marks: it holds of every log of every program whose sheet is within the limits.
abbrev pub MarksLaw : Type 0
MarksLaw = (P : Program) → OnLimits P.sheet → LogsAlike P

-- Budgets add up, with marks too: a call with budget n + m is one with budget n and, where that spent its budget, one with budget m.
abbrev pub MarkedJoin : Type 0
MarkedJoin = (p : Option Marked) (v : Works) (n m : ℕ) → run_marked p v (n + m) ≡ then_marked m (run_marked p v n)
