-- What always holds of a machine: it never gets stuck, whatever a works of its sheet shows.
use Rattle.std.specs.Prelude.{◌≡◌, ℕ, zero, suc, ◌<◌, false, List, length, Some, None, Option as Maybe}
use Rattle.instruments.specs.Sheets.{stations_of}
use Rattle.syntax.specs.declared.program.Term.{Term as TermRow}
use Rattle.machine.specs.Answers.{of_terms}
use Rattle.calculus.specs.Types.{Sheet}
use Rattle.calculus.specs.Program.{Program}
use Rattle.calculus.specs.Machine
use Rattle.calculus.specs.Step.{Works}
use Rattle.calculus.specs.NetworkTyping.{Agrees}
use Rattle.machine.specs.Meaning.{state_of}
use Rattle.machine.specs.declared.parts.State.{State}
use Rattle.machine.specs.declared.place.Started.{Started}

-- There is a step to such a state and works, or a silent register is met.
abbrev pub Onward : Machine.Outcome → (Machine.State → Works → Type 0) → Type 0
Onward (Machine.stepped L u e) Q = Q L u
Onward (Machine.silent κ s n) Q = Unit {0}
Onward Machine.stuck Q = ⊥

-- For k steps: whatever a works of the sheet shows, the machine is done, or meets a silent register, or steps to a site of the
-- sheet, where the same holds, and the works is still one of the sheet.
abbrev pub SafeFor : ℕ → Program → Sheet → Machine.State → Type 0
SafeFor zero P S M = Unit {0}
SafeFor (suc k) P S M =
    (v : Works) → Agrees S v → Machine.is_finished M ≡ false → Onward (Machine.step P v M) (λ L u. (Machine.stands_at L < length S) × Agrees S u × SafeFor k P S L)

abbrev pub Safe : Program → Sheet → Machine.State → Type 0
Safe P S M = (k : ℕ) → SafeFor k P S M

-- A machine of a program over a sheet.
pub record Holds (P : Program) (S : Sheet) (s : State) : Type 0 where
  pub stations_are : s.stations ≡ length S
  pub safe : Safe P S (state_of s)

-- What a place for a machine carries: of a machine that was started, that it is one.
abbrev pub Carried : Maybe Started → List TermRow → State → Type 0
Carried (Some d) ts s = Holds (of_terms ts) (stations_of d.sheet) s
Carried None ts s = Unit {0}
