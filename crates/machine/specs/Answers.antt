-- What a step of the machine answers, against the step of the environment machine and the places that its rule takes.
use Rattle.std.specs.Prelude.{◌≡◌, ℕ, ◌<◌, Bool, true, false, cond, List, [], Ok, Err, Option as Maybe, Result, nat_lt}
use Rattle.std.proofs.Math.Option.{Option, some, none as nothing}
use Rattle.lines.specs.declared.refusal.RegisterFault.{RegisterFault}
use Rattle.lines.specs.declared.refusal.RegisterFault.TheVariants.{NotFitted, Silent}
use Rattle.lines.specs.declared.refusal.Unanswered.{Unanswered}
use Rattle.calculus.specs.Machine
use Rattle.calculus.specs.Step.{Works, Instrument, a_gauge, a_gate, quiet}
use Rattle.syntax.specs.declared.program.Term.{Term as TermRow}
use Rattle.calculus.specs.Limits.{takes, row_rule, frame_rule, lacks, lacking, a_frame, a_binding, two_bindings, a_pair, a_published, a_kept, a_binding_and_kept, no_place}
use Rattle.calculus.specs.Tables.{Table as Tabled, count, entry}
use Rattle.calculus.specs.Program.{Program}
use Rattle.machine.specs.Meaning.{state_of, cells_of, chains_of, sites_of, places_of, environment_of, value_of, bound_of, continuation_of, task_of, phase_of}
use Rattle.machine.specs.declared.parts.Environment.{Environment}
use Rattle.machine.specs.declared.parts.Value.{Value}
use Rattle.machine.specs.declared.parts.Bound.{Bound}
use Rattle.machine.specs.declared.parts.Continuation.{Continuation}
use Rattle.machine.specs.declared.parts.Task.{Task}
use Rattle.machine.specs.declared.parts.Phase.{Phase}
use Rattle.machine.specs.declared.parts.State.{State}
use Rattle.lines.specs.declared.refusal.StepFault.{StepFault}
use Rattle.lines.specs.declared.refusal.StepFault.TheVariants.{Full, Register}
use Rattle.lines.specs.declared.refusal.Instrument.{Instrument as Coded}
use Rattle.lines.specs.declared.refusal.Instrument.TheVariants.{Gauge, Gate}
use Rattle.lines.specs.declared.refusal.Table.{Table}
use Rattle.lines.specs.declared.refusal.Table.TheVariants.{Frames, Bindings, Pairs, Published, Kept}

-- The kinds of tables by their numbers.
abbrev pub kind : Table → ℕ
kind Frames = 1
kind Bindings = 2
kind Pairs = 3
kind Published = 4
kind Kept = 5

abbrev pub instrument_of : Coded → Instrument
instrument_of Gauge = a_gauge
instrument_of Gate = a_gate

-- A step leads to a state and a works; or a table of that kind lacks places; or a silent register is met; or no rule fits.
pub data Answer : Type 0 where
  went : Machine.State → Works → Answer
  full : ℕ → Answer
  met : Instrument → ℕ → ℕ → Answer
  broken : Answer

-- A step that there is takes its places, if no table lacks them.
abbrev pub answered : Machine.Outcome → Option ℕ → Answer
answered (Machine.stepped L u e) nothing = went L u
answered (Machine.stepped L u e) (some κ) = full κ
answered (Machine.silent κ s n) l = met κ s n
answered Machine.stuck l = broken

-- a register's answer, with what kind of register it is
abbrev pub unanswered : {A : Type 0} → Coded → Result A RegisterFault → Result A Unanswered
unanswered i (Ok a) = Ok a
unanswered i (Err f) = Err (record { instrument = i; fault = f })

-- The register that does not answer is silent.
abbrev MetBy : Coded → RegisterFault → Answer → Type 0
MetBy i (Silent w n) a = a ≡ met (instrument_of i) w n
MetBy i (NotFitted w n) a = ⊥

abbrev pub Met : Unanswered → Answer → Type 0
Met f a = MetBy f.instrument f.fault a

-- The code went on from the state s to t, with a works that shows u then, as the answer says.
abbrev pub Goes : State → State → Works → Answer → Type 0
Goes s t u a = (t.stations ≡ s.stations) × (a ≡ went (state_of t) u)

-- The code went from the state s and a works that shows v to t and u, as the answer says. A fault leaves all as it was.
abbrev pub Ends : {U : Type 0} → Result U StepFault → State → State → Works → Works → Answer → Type 0
Ends (Ok x) s t v u a = Goes s t u a
Ends (Err (Full k)) s t v u a = (t ≡ s) × (u ≡ v) × (a ≡ full (kind k))
Ends (Err (Register f)) s t v u a = (t ≡ s) × (u ≡ v) × Met f a

-- There is a step to a site that there is, or a silent register is met.
abbrev pub Lands : ℕ → Machine.Outcome → Type 0
Lands n (Machine.stepped L u e) = Machine.stands_at L < n
Lands n (Machine.silent κ s k) = Unit {0}
Lands n Machine.stuck = ⊥

-- what the parts of a state stand for in it
abbrev pub scope : State → Environment → Machine.Environment
scope s e = environment_of (cells_of s) e

abbrev pub held : State → Value → Machine.Value
held s v = value_of (cells_of s) v

abbrev pub over : State → Continuation → Machine.Continuation
over s k = continuation_of (chains_of s) k

-- there is one
abbrev pub is_some : {A : Type 0} → Option A → Bool
is_some nothing = false
is_some (some a) = true

-- the kinds of values
abbrev pub is_number : Machine.Value → Bool
is_number (Machine.number n) = true
is_number (Machine.function p ρ) = false
is_number (Machine.code p ρ) = false
is_number (Machine.address s l) = false
is_number (Machine.pair a b) = false

abbrev pub is_function : Machine.Value → Bool
is_function (Machine.number n) = false
is_function (Machine.function p ρ) = true
is_function (Machine.code p ρ) = false
is_function (Machine.address s l) = false
is_function (Machine.pair a b) = false

abbrev pub is_code : Machine.Value → Bool
is_code (Machine.number n) = false
is_code (Machine.function p ρ) = false
is_code (Machine.code p ρ) = true
is_code (Machine.address s l) = false
is_code (Machine.pair a b) = false

abbrev pub is_address : Machine.Value → Bool
is_address (Machine.number n) = false
is_address (Machine.function p ρ) = false
is_address (Machine.code p ρ) = false
is_address (Machine.address s l) = true
is_address (Machine.pair a b) = false

abbrev pub is_pair : Machine.Value → Bool
is_pair (Machine.number n) = false
is_pair (Machine.function p ρ) = false
is_pair (Machine.code p ρ) = false
is_pair (Machine.address s l) = false
is_pair (Machine.pair a b) = true

-- what a works shows, gauges and gates
abbrev pub shown : Tabled (Maybe ℕ) → Tabled (Maybe ℕ) → Works
shown g n = record { gauges = g; gates = n }

-- A step sees no more of a program than its terms.
abbrev pub of_terms : List TermRow → Program
of_terms ts = record { sheet = []; types = []; terms = ts; start = 0 }

module _ (v : Works) (s : State) where
  -- on with a continuation and a phase
  abbrev pub going : Continuation → Phase → Answer
  going next p = answered (Machine.next v (sites_of s) s.site (places_of s) (over s next) (phase_of (cells_of s) p)) (lacking no_place (state_of s))

  -- back with a bound value
  abbrev pub valued : Machine.Found → Machine.Outcome
  valued f = Machine.value_step v (sites_of s) s.site (places_of s) (over s s.continuation) f

  -- at a site with the continuation that it keeps
  abbrev pub resuming : ℕ → ℕ → Phase → Answer
  resuming w c p = answered (Machine.resume v (sites_of s) s.site (places_of s) w (phase_of (cells_of s) p) (entry (sites_of s).kept w c)) (lacking no_place (state_of s))

  -- at another site, over `abort`
  abbrev pub leaving : ℕ → ℕ → Environment → Answer
  leaving w a e = answered (Machine.stepped (Machine.state (sites_of s) w Machine.abort (Machine.eval a (scope s e)) (places_of s)) v quiet) (lacking no_place (state_of s))

  -- the number that a gauge shows
  abbrev pub gauged : ℕ → Machine.Outcome
  gauged n = Machine.gauge_shows v (sites_of s) s.site (places_of s) (over s s.continuation) n (entry v.gauges s.site n)

  -- a row of the terms is evaluated
  abbrev pub row_stepped : ℕ → Environment → TermRow → Machine.Outcome
  row_stepped p e r = Machine.row_step v (sites_of s) s.site (places_of s) (over s s.continuation) p (scope s e) r

  abbrev pub evaluated : ℕ → Environment → TermRow → Answer
  evaluated p e r = answered (row_stepped p e r) (lacking (takes (row_rule r)) (state_of s))

  -- back with a value to a task over `next`
  abbrev pub framed : Program → Continuation → Value → Task → Machine.Outcome
  framed P next u t = Machine.frame_step v (sites_of s) s.site (places_of s) P (over s next) (held s u) (task_of (cells_of s) t)

  abbrev pub worked : Program → Continuation → Value → Task → Answer
  worked P next u t = answered (framed P next u t) (lacking (takes (frame_rule (task_of (cells_of s) t))) (state_of s))

  -- a gate is set here, and work is back with the number
  abbrev pub gated : Continuation → Value → ℕ → Machine.Outcome
  gated next u g = Machine.when_number (held s u) (λ n. Machine.gate_set v (sites_of s) s.site (places_of s) (over s next) g n (entry v.gates s.site g))

  -- one of two parts is evaluated, by the order of two numbers
  abbrev pub chosen : Continuation → Value → ℕ → ℕ → Environment → Value → Machine.Outcome
  chosen next a x y e u = Machine.when_number (held s a) (λ m. Machine.when_number (held s u) (λ n. Machine.next v (sites_of s) s.site (places_of s) (over s next) (Machine.eval (cond (nat_lt m n) x y) (scope s e))))

  -- What a step answers.
  abbrev pub stepped_on : Program → Answer
  stepped_on P = answered (Machine.step P v (state_of s)) (lacks P (state_of s))

  -- a frame is pushed over `next`, and a part is evaluated
  abbrev pub pushing : Task → Continuation → ℕ → Environment → Answer
  pushing t next a e = answered (Machine.pushing v (sites_of s) s.site (places_of s) (over s next) (task_of (cells_of s) t) a (scope s e)) (lacking a_frame (state_of s))

  -- one binding more, and a part is evaluated in it
  abbrev pub binding : Bound → Environment → Continuation → ℕ → Answer
  binding b e next a = answered (Machine.binding v (sites_of s) s.site (places_of s) (over s next) a (bound_of (cells_of s) b (scope s e))) (lacking a_binding (state_of s))

  -- a world and a label at it are bound, and a part is evaluated in both
  abbrev pub opening : ℕ → ℕ → Environment → Continuation → ℕ → Answer
  opening w l e next a =
      answered
      (Machine.stepped (Machine.state (sites_of s) s.site (over s next) (Machine.eval a (Machine.label w l (Machine.world w (scope s e)))) (Machine.binding_more (Machine.binding_more (places_of s)))) v quiet)
      (lacking two_bindings (state_of s))

  -- back with a pair
  abbrev pub joining : Value → Value → Continuation → Answer
  joining a b next =
      answered (Machine.stepped (Machine.state (sites_of s) s.site (over s next) (Machine.back (Machine.pair (held s a) (held s b))) (Machine.pair_more (places_of s))) v quiet) (lacking a_pair (state_of s))

  -- back with the address of a value that is published here
  abbrev pub publishing : Value → Continuation → Answer
  publishing a next =
      answered
      (Machine.stepped (Machine.state (Machine.publish (sites_of s) s.site (held s a)) s.site (over s next) (Machine.back (Machine.address s.site (count (sites_of s).published s.site))) (places_of s)) v quiet)
      (lacking a_published (state_of s))

  -- the continuation is kept here, and a part is evaluated at another site
  abbrev pub getting : ℕ → ℕ → Environment → Answer
  getting w a e =
      answered
      (Machine.stepped (Machine.state (Machine.keep (sites_of s) s.site (over s s.continuation)) w (Machine.return s.site (count (sites_of s).kept s.site)) (Machine.eval a (scope s e)) (places_of s)) v quiet)
      (lacking a_kept (state_of s))

  -- the continuation is kept here and bound, and a part is evaluated
  abbrev pub catching : ℕ → Environment → Answer
  catching a e =
      answered
      (Machine.stepped (Machine.state (Machine.keep (sites_of s) s.site (over s s.continuation)) s.site (over s s.continuation) (Machine.eval a (Machine.continuation s.site (count (sites_of s).kept s.site) (scope s e))) (Machine.binding_more (places_of s))) v quiet)
      (lacking a_binding_and_kept (state_of s))
