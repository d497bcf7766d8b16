-- What a run that marks the registers touched answers.
use Rattle.std.specs.Prelude.{◌≡◌, ℕ, ◌+◌, Ok, Err, Result}
use Rattle.lines.specs.declared.refusal.RegisterFault.{RegisterFault}
use Rattle.lines.specs.declared.refusal.RegisterFault.TheVariants.{NotFitted, Silent}
use Rattle.lines.specs.declared.refusal.StepFault.{StepFault}
use Rattle.lines.specs.declared.refusal.StepFault.TheVariants.{Full, Register}
use Rattle.lines.specs.declared.refusal.RunFault.{RunFault}
use Rattle.lines.specs.declared.refusal.Instrument.{Instrument}
use Rattle.calculus.specs.Machine
use Rattle.calculus.specs.Step.{Works}
use Rattle.calculus.specs.Run.{Ending, done, spent, at_silent, at_full, broken, Result as Executed}
use Rattle.calculus.specs.Marks.{Marks, marks_after}
use Rattle.machine.specs.Answers.{kind, instrument_of}
use Rattle.machine.specs.declared.parts.Run.{Run}
use Rattle.machine.specs.declared.parts.Run.TheVariants.{Done, Spent}

-- Why a run ended, after how many steps, and the works, the state and the marks then.
pub record Ran : Type 0 where
  pub ending : Ending
  pub steps : ℕ
  pub works : Works
  pub end : Machine.State
  pub marks : Marks

-- of a run of the environment machine from these marks
abbrev pub ran_by : Marks → Executed → Ran
ran_by ms r = record { ending = r.ending; steps = r.steps; works = r.works; end = r.end; marks = marks_after r.events ms }

-- so many steps were taken before
abbrev pub past : ℕ → Ran → Ran
past n r = record { ending = r.ending; steps = n + r.steps; works = r.works; end = r.end; marks = r.marks }

-- the fault of a step, with the site where work stands and the steps before
abbrev pub halted : {U : Type 0} → Result U StepFault → ℕ → ℕ → Result U RunFault
halted (Ok u) site steps = Ok u
halted (Err f) site steps = Err (record { fault = f; site = site; steps = steps })

-- the ending that a fault of a step at a site is
abbrev silent_ending : Instrument → RegisterFault → Ending
silent_ending i (Silent w n) = at_silent (instrument_of i) w n
silent_ending i (NotFitted w n) = broken

abbrev pub fault_ending : StepFault → ℕ → Ending
fault_ending (Full k) w = at_full (kind k) w
fault_ending (Register f) w = silent_ending f.instrument f.fault

-- What the code's answer says, with the state, the works and the marks that it left.
abbrev pub ran : Result Run RunFault → Machine.State → Works → Marks → Ran
ran (Ok (Done n)) M u ms = record { ending = done; steps = n; works = u; end = M; marks = ms }
ran (Ok (Spent n)) M u ms = record { ending = spent; steps = n; works = u; end = M; marks = ms }
ran (Err f) M u ms = record { ending = fault_ending f.fault f.site; steps = f.steps; works = u; end = M; marks = ms }

-- A register that stops a run is silent, and of the site where the machine stands.
abbrev SilentAt : RegisterFault → ℕ → Type 0
SilentAt (Silent w n) site = w ≡ site
SilentAt (NotFitted w n) site = ⊥

-- The same of the fault of a step; a full table says nothing of a site.
abbrev ToldFault : StepFault → ℕ → Type 0
ToldFault (Full k) site = Unit {0}
ToldFault (Register f) site = SilentAt f.fault site

-- A run that is refused tells the site where the machine stands.
abbrev pub Told : Result Run RunFault → Type 0
Told (Ok r) = Unit {0}
Told (Err f) = ToldFault f.fault f.site
