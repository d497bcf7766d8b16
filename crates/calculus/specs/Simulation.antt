-- What is proved of the environment machine: its steps are those of the calculus.
use Rattle.std.specs.Prelude.{◌≡◌, ℕ, true, false, ◌⊎◌, List, ◌≢◌}
use Rattle.calculus.specs.Machine
use Rattle.calculus.specs.Types.{Ty}
use Rattle.calculus.specs.Typing.{Entries}
use Rattle.calculus.specs.Network.{started}
use Rattle.calculus.specs.Step.{Works, Event, step, Run, AtHome}
use Rattle.calculus.specs.Program.{Program, main, WellTyped, Ordered}
use Rattle.calculus.specs.NetworkTyping.{setup, NetworkTyped, Agrees}
use Rattle.calculus.specs.Meaning.{network_of, outcome_of}

-- Each step of the machine, from any state whatever, is the step of the network that the state means.
abbrev pub Simulation : Type 0
Simulation = (P : Program) → Ordered P → (v : Works) (M : Machine.State) → step v (network_of P M) ≡ outcome_of P (Machine.step P v M)

-- Runs likewise: as many steps, with the same look-ups, readings and settings.
abbrev pub RunSimulation : Type 0
RunSimulation = (P : Program) → Ordered P → (v u : Works) (M L : Machine.State) (n : ℕ) (es : List Event) → Machine.Run P v M n es u L →
    Run v (network_of P M) n es u (network_of P L)

-- A started machine means the started program.
abbrev pub StartMeans : Type 0
StartMeans = (P : Program) → network_of P (Machine.started P) ≡ started P.sheet P.start (main P)

-- A state of a program of type A: it means a typed network.
abbrev pub StateTyped : Program → Ty → Machine.State → Type 0
StateTyped P A M = (Σ : Entries) × NetworkTyped (setup P A) Σ (network_of P M)

-- A started program of type A is in such a state, each step leads to one again, and in such a state the machine is done, or it
-- steps or meets a silent register: it is never stuck.
pub record StatesTyped (P : Program) (A : Ty) : Type 0 where
  pub start : WellTyped P A → StateTyped P A (Machine.started P)
  pub step : (v u : Works) (M L : Machine.State) (e : Event) → StateTyped P A M → Machine.step P v M ≡ Machine.stepped L u e → StateTyped P A L
  pub moves : (v : Works) (M : Machine.State) → Agrees P.sheet v → StateTyped P A M → (Machine.is_finished M ≡ true) ⊎ Machine.Moves (Machine.step P v M)
  pub unstuck : (v : Works) (M : Machine.State) → Agrees P.sheet v → StateTyped P A M → Machine.is_finished M ≡ false → Machine.step P v M ≢ Machine.stuck

abbrev pub StatesStand : Type 0
StatesStand = (P : Program) (A : Ty) → Ordered P → StatesTyped P A

-- Whatever a started machine of a typed program comes to means a typed network, and it is done, or it steps or meets a silent
-- register.
abbrev pub MachineSafety : Type 0
MachineSafety = (P : Program) → Ordered P → (A : Ty) (v u : Works) (n : ℕ) (es : List Event) (M : Machine.State) →
    WellTyped P A → Agrees P.sheet v → Machine.Run P v (Machine.started P) n es u M →
    StateTyped P A M × AtHome es × ((Machine.is_finished M ≡ true) ⊎ Machine.Moves (Machine.step P u M))
