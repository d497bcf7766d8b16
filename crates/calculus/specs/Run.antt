-- A run under a budget, with the limits of the tables, and where a machine stands.
use Rattle.std.specs.Prelude.{◌≡◌, ℕ, zero, suc, ◌+◌, ◌<◌, ◌≤◌, Bool, true, false, cond, ◌&&◌, ◌||◌, List, [], ◌∷◌, ◌++◌, length, ◌==◌, ◌≢◌}
use Rattle.std.proofs.Math.Option.{some, none as nothing}
use Rattle.calculus.specs.Machine
use Rattle.calculus.specs.Types.{Ty}
use Rattle.calculus.specs.Tables.{Table, count}
use Rattle.calculus.specs.Step.{Works, Instrument, a_gauge, a_gate, Event, quiet, looked, was_read, was_set}
use Rattle.calculus.specs.Program.{Program, Ordered}
use Rattle.calculus.specs.NetworkTyping.{Agrees}
use Rattle.calculus.specs.Checker.{typed, check}
use Rattle.calculus.specs.Limits.{room, lacks}

-- Why a run ended. The first of these that holds is given.
pub data Ending : Type 0 where
  done : Ending
  spent : Ending
  at_silent : Instrument → ℕ → ℕ → Ending  -- the next step meets a silent register
  at_full : ℕ → ℕ → Ending  -- the next step lacks places in a table of that kind, at that site
  broken : Ending  -- no rule fits: an accepted program never comes to this

-- What a run gives: why it ended, after how many steps, what they looked up, read and set, and the works and the state then.
pub record Result : Type 0 where
  pub ending : Ending
  pub steps : ℕ
  pub events : List Event
  pub works : Works
  pub end : Machine.State

-- a run that ends where it starts
abbrev pub stop : Ending → Works → Machine.State → Result
stop e v M = record { ending = e; steps = 0; events = []; works = v; end = M }

-- one step before a run
abbrev pub one_more : Event → Result → Result
one_more e r = record { ending = r.ending; steps = suc r.steps; events = e ∷ r.events; works = r.works; end = r.end }

-- A run steps until it is done, its budget is used, or the next step meets a silent register or lacks places.
abbrev pub execute : Program → ℕ → Works → Machine.State → Result
execute P zero v M = elim (Machine.is_finished M) [ true ↦ stop done v M | false ↦ stop spent v M ]
execute P (suc b) v M =
    elim (Machine.is_finished M) [
      | true ↦ stop done v M
      | false ↦
          elim (Machine.step P v M) [
            | Machine.stepped L u e ↦ elim (lacks P M) [ nothing ↦ one_more e (execute P b u L) | some κ ↦ stop (at_full κ (Machine.stands_at M)) v M ]
            | Machine.silent κ s n ↦ stop (at_silent κ s n) v M
            | Machine.stuck ↦ stop broken v M
          ]
    ]

-- There is a step, but a table lacks places for it.
abbrev pub Full : Program → Works → Machine.State → ℕ → ℕ → Type 0
Full P v M κ s = (s ≡ Machine.stands_at M) × (lacks P M ≡ some κ) × ((L : Machine.State) × (u : Works) × (e : Event) × (Machine.step P v M ≡ Machine.stepped L u e))

-- the run with budget b ended so
abbrev pub EndsSo : Program → ℕ → Result → Ending → Type 0
EndsSo P b r done = Machine.is_finished r.end ≡ true
EndsSo P b r spent = (r.steps ≡ b) × (Machine.is_finished r.end ≡ false)
EndsSo P b r (at_silent κ s n) = (r.steps < b) × (Machine.step P r.works r.end ≡ Machine.silent κ s n)
EndsSo P b r (at_full κ s) = (r.steps < b) × Full P r.works r.end κ s
EndsSo P b r broken = (Machine.step P r.works r.end ≡ Machine.stuck) × (Machine.is_finished r.end ≡ false)

-- The count of a run is the number of steps between the two states, and the run ended for the reason that it gives.
abbrev pub ExecuteCounts : Type 0
ExecuteCounts = (P : Program) (b : ℕ) (v : Works) (M : Machine.State) →
    let r = execute P b v M in
    Machine.Run P v M r.steps r.events r.works r.end × EndsSo P b r r.ending

-- one run and then another: steps add up, events follow each other, and it ends as the second does
abbrev pub joined : Result → Result → Result
joined r q = record { ending = q.ending; steps = r.steps + q.steps; events = r.events ++ q.events; works = q.works; end = q.end }

-- a run that ended so, and then goes on with budget m from where it left machine and works, if its budget was spent
abbrev pub then_if : Ending → Program → ℕ → Result → Result
then_if done P m r = r
then_if spent P m r = joined r (execute P m r.works r.end)
then_if (at_silent κ s n) P m r = r
then_if (at_full κ s) P m r = r
then_if broken P m r = r

-- a run, and then one with budget m, if its budget was spent
abbrev pub then_run : Program → ℕ → Result → Result
then_run P m r = then_if r.ending P m r

-- Budgets add up: a run with budget n + m is the run with budget n, and, where that was spent, the run with budget m from where it
-- left machine and works. Where it ended otherwise, it is the same run.
abbrev pub RunsJoin : Type 0
RunsJoin = (P : Program) (n m : ℕ) (v : Works) (M : Machine.State) → execute P (n + m) v M ≡ then_run P m (execute P n v M)

-- A run of an accepted program always finds a rule, on any works of its sheet, from any state that the program comes to.
abbrev pub NeverBroken : Type 0
NeverBroken = (P : Program) (A : Ty) (v u : Works) (n b : ℕ) (es : List Event) (M : Machine.State) → Ordered P →
    check P ≡ typed A → Agrees P.sheet v → Machine.Run P v (Machine.started P) n es u M → (execute P b u M).ending ≢ broken

-- a gauge or a gate of a site, and its number
pub data Register : Type 0 where
  register : Instrument → ℕ → ℕ → Register

abbrev pub same_kind : Instrument → Instrument → Bool
same_kind a_gauge a_gauge = true
same_kind a_gauge a_gate = false
same_kind a_gate a_gauge = false
same_kind a_gate a_gate = true

abbrev pub same_register : Register → Register → Bool
same_register (register κ s n) (register μ a b) = same_kind κ μ && (s == a && n == b)

abbrev pub is_among : Register → List Register → Bool
is_among r [] = false
is_among r (q ∷ qs) = same_register r q || is_among r qs

-- one register more, unless it is there
abbrev pub marked : Register → List Register → List Register
marked r qs = cond (is_among r qs) qs (r ∷ qs)

-- The registers touched, each once: those before, and those that the steps read or set.
abbrev pub touched_by : List Event → List Register → List Register
touched_by [] qs = qs
touched_by (quiet ∷ es) qs = touched_by es qs
touched_by (looked a b c ∷ es) qs = touched_by es qs
touched_by (was_read s g c ∷ es) qs = touched_by es (marked (register a_gauge s g) qs)
touched_by (was_set s g x c ∷ es) qs = touched_by es (marked (register a_gate s g) qs)

-- whether a step read or set that register
abbrev pub touches : Register → List Event → Bool
touches r [] = false
touches r (quiet ∷ es) = touches r es
touches r (looked a b c ∷ es) = touches r es
touches r (was_read s g c ∷ es) = same_register r (register a_gauge s g) || touches r es
touches r (was_set s g x c ∷ es) = same_register r (register a_gate s g) || touches r es

-- no register is there twice
abbrev pub Distinct : List Register → Type 0
Distinct [] = Unit {0}
Distinct (r ∷ qs) = (is_among r qs ≡ false) × Distinct qs

-- The registers touched are those before and those that a step read or set, and each is there once.
abbrev pub TouchedOnce : Type 0
TouchedOnce = (es : List Event) (qs : List Register) →
    ((r : Register) → is_among r (touched_by es qs) ≡ (is_among r qs || touches r es)) × (Distinct qs → Distinct (touched_by es qs))

-- how many entries a table has at all sites
abbrev pub total : {A : Type 0} → Table A → ℕ
total [] = 0
total (r ∷ t) = length r + total t

-- the phase that is shown
pub data Shown : Type 0 where
  evaluating : Shown
  returning : Shown
  finished : Shown

-- Where a machine stands: site and phase, the places taken by frames, kept continuations and published values, and how many
-- registers were touched.
pub record Stand : Type 0 where
  pub site : ℕ
  pub phase : Shown
  pub frames : ℕ
  pub kept : ℕ
  pub published : ℕ
  pub touched : ℕ

abbrev shown_phase : Machine.Continuation → Machine.Phase → Shown
shown_phase k (Machine.eval p ρ) = evaluating
shown_phase Machine.finish (Machine.back u) = finished
shown_phase Machine.abort (Machine.back u) = returning
shown_phase (Machine.return s c) (Machine.back u) = returning
shown_phase (Machine.push f k) (Machine.back u) = returning

abbrev pub stand_of : Machine.State → List Register → Stand
stand_of (Machine.state H w k p c) qs =
    record { site = w; phase = shown_phase k p; frames = c.frames; kept = total H.kept; published = total H.published; touched = length qs }

-- No table holds more than it has places for.
pub record Within (M : Machine.State) : Type 0 where
  pub frames : (Machine.places_of M).frames ≤ room.frames
  pub bindings : (Machine.places_of M).bindings ≤ room.bindings
  pub pairs : (Machine.places_of M).pairs ≤ room.pairs
  pub published : (s : ℕ) → count (Machine.sites_of M).published s ≤ room.published
  pub kept : (s : ℕ) → count (Machine.sites_of M).kept s ≤ room.kept

-- A run from a state within the limits ends in one.
abbrev pub StaysWithin : Type 0
StaysWithin = (P : Program) (b : ℕ) (v : Works) (M : Machine.State) → Within M → Within (execute P b v M).end

-- A started machine is within the limits.
abbrev pub StartsWithin : Type 0
StartsWithin = (P : Program) → Within (Machine.started P)
