-- The loop of a run, which marks the registers touched, turn by turn.
use Rattle.std.proofs.Common.{◌≡◌, ℕ, suc, ◌+◌, ◌-◌, ◌<◌, true, false, length, Ok, Err, Result as Either, sym, refl, ap, ◌∙◌, subst, arith}
use mathlib.Core.Option.{Option, some, none as nothing}
use Rattle.lines.specs.declared.refusal.RegisterFault.{RegisterFault}
use Rattle.lines.specs.declared.refusal.RegisterFault.TheVariants.{NotFitted, Silent}
use Rattle.calculus.specs.Types.{Sheet}
use Rattle.calculus.specs.Machine
use Rattle.calculus.specs.Program.{Program}
use Rattle.calculus.specs.Step.{Works, Instrument, Event}
use Rattle.calculus.specs.NetworkTyping.{Agrees}
use Rattle.calculus.specs.Limits.{lacks}
use Rattle.calculus.specs.Run.{Ending, done, spent, at_silent, at_full, stop, execute}
use Rattle.calculus.specs.Marks.{Marks, marks_after}
use Rattle.calculus.proofs.Turns.{goes_by, ends_done as run_done, ends_spent as run_spent}
use Rattle.machine.specs.Meaning.{state_of}
use Rattle.machine.specs.Answers.{Met, went, full, met, answered, Ends, Goes, Lands, kind, instrument_of, stepped_on}
use Rattle.machine.specs.Safe.{Onward, SafeFor, Holds}
use Rattle.machine.specs.Runs.{Ran, ran, ran_by, past, fault_ending, halted, Told}
use Rattle.machine.specs.Touching.{marked_by}
use Rattle.machine.proofs.Silence.{silent_here}
use Rattle.machine.proofs.Touches.{marks_cons}
use Rattle.lines.specs.declared.refusal.RunFault.{RunFault}
use Rattle.lines.specs.declared.refusal.StepFault.{StepFault}
use Rattle.lines.specs.declared.refusal.StepFault.TheVariants.{Full, Register}
use Rattle.lines.specs.declared.refusal.Instrument.{Instrument as Coded}
use Rattle.machine.specs.declared.parts.State.{State}

-- what an answer says of the step
pub went_is : (o : Machine.Outcome) (l : Option ℕ) (L : Machine.State) (u : Works) → answered o l ≡ went L u → (e : Event) × (o ≡ Machine.stepped L u e) × (l ≡ nothing)
went_is (Machine.stepped K x e) nothing L u q =
    let a : K ≡ L = cc in
    let b : x ≡ u = cc in
    (e, (λ i. Machine.stepped (a i) (b i) e), refl)
went_is (Machine.stepped K x e) (some k) L u q = absurd (let z : ◌≡◌ {A = ℕ} 0 1 = cc in omega arith)
went_is (Machine.silent κ s n) l L u q = absurd (let z : ◌≡◌ {A = ℕ} 0 1 = cc in omega arith)
went_is Machine.stuck l L u q = absurd (let z : ◌≡◌ {A = ℕ} 0 1 = cc in omega arith)

pub full_is : (o : Machine.Outcome) (l : Option ℕ) (k : ℕ) → answered o l ≡ full k → (L : Machine.State) × (u : Works) × (e : Event) × (o ≡ Machine.stepped L u e) × (l ≡ some k)
full_is (Machine.stepped K x e) nothing k q = absurd (let z : ◌≡◌ {A = ℕ} 0 1 = cc in omega arith)
full_is (Machine.stepped K x e) (some j) k q = (K, x, e, refl, (let a : j ≡ k = cc in ap some a))
full_is (Machine.silent κ s n) l k q = absurd (let z : ◌≡◌ {A = ℕ} 0 1 = cc in omega arith)
full_is Machine.stuck l k q = absurd (let z : ◌≡◌ {A = ℕ} 0 1 = cc in omega arith)

pub met_is : (o : Machine.Outcome) (l : Option ℕ) (κ : Instrument) (s n : ℕ) → answered o l ≡ met κ s n → o ≡ Machine.silent κ s n
met_is (Machine.stepped K x e) nothing κ s n q = absurd (let z : ◌≡◌ {A = ℕ} 0 1 = cc in omega arith)
met_is (Machine.stepped K x e) (some j) κ s n q = absurd (let z : ◌≡◌ {A = ℕ} 0 1 = cc in omega arith)
met_is (Machine.silent κ s n) l μ t m q =
    let a : κ ≡ μ = cc in
    let b : s ≡ t = cc in
    let c : n ≡ m = cc in
    λ i. Machine.silent (a i) (b i) (c i)
met_is Machine.stuck l κ s n q = absurd (let z : ◌≡◌ {A = ℕ} 0 1 = cc in omega arith)

onward_lands : (n : ℕ) (o : Machine.Outcome) (Q : Machine.State → Works → Type 0) → ((L : Machine.State) (u : Works) → Q L u → Machine.stands_at L < n) → Onward o Q → Lands n o
onward_lands n (Machine.stepped L u e) Q f h = f L u h
onward_lands n (Machine.silent κ s m) Q f h = tt
onward_lands n Machine.stuck Q f h = h

module _ (P : Program) (S : Sheet) (s : State) (v : Works) (h : Holds P S s) (a : Agrees S v) (on : Machine.is_finished (state_of s) ≡ false) where
  pub safe_lands : Lands s.stations (Machine.step P v (state_of s))
  safe_lands = subst (λ n. Lands n (Machine.step P v (state_of s))) (sym h.stations_are) (onward_lands (length S) (Machine.step P v (state_of s)) _ (λ L u q. q.0) (h.safe 1 v a on))

  pub holds_on : (t : State) (u : Works) → Goes s t u (stepped_on v s P) → Holds P S t × Agrees S u
  holds_on t u g =
      let w = went_is (Machine.step P v (state_of s)) (lacks P (state_of s)) (state_of t) u g.1 in
      let next : (k : ℕ) → (Machine.stands_at (state_of t) < length S) × Agrees S u × SafeFor k P S (state_of t) =
      λ k. subst (λ o. Onward o (λ L x. (Machine.stands_at L < length S) × Agrees S x × SafeFor k P S L)) w.1 (h.safe (suc k) v a on) in
      (record { stations_are = g.0 ∙ h.stations_are; safe = λ k. (next k).2 }, (next 0).1)

pub less_one : (n b : ℕ) → n < b → b - n ≡ suc (b - (n + 1))
less_one n b l = omega arith

at_zero : (n : ℕ) (e : Ending) (v : Works) (M : Machine.State) (ms : Marks) → record { ending = e; steps = n; works = v; end = M; marks = ms } ≡ past n (ran_by ms (stop e v M))
at_zero n e v M ms = let m : n ≡ n + 0 = omega arith in λ i. record { ending = e; steps = m i; works = v; end = M; marks = ms }

-- what a step answered, out of what the run makes of it
pub halted_ok : (r : Either Unit StepFault) (u : Unit) (w n : ℕ) → Ok u ≡ halted r w n → r ≡ Ok u
halted_ok (Ok x) u w n e = refl
halted_ok (Err f) u w n e = absurd (let z : ◌≡◌ {A = ℕ} 0 1 = cc in omega arith)

pub halted_err : (r : Either Unit StepFault) (f : RunFault) (w n : ℕ) → Err f ≡ halted r w n → (g : StepFault) × (r ≡ Err g) × (f ≡ record { fault = g; site = w; steps = n })
halted_err (Ok x) f w n e = absurd (let z : ◌≡◌ {A = ℕ} 0 1 = cc in omega arith)
halted_err (Err g) f w n e = (g, refl, cc)

module _ (P : Program) (s : State) (v : Works) (ms : Marks) (n b : ℕ) where
  -- the run that is left
  abbrev rest : Ran
  rest = past n (ran_by ms (execute P (b - n) v (state_of s)))

  pub ends_done : Machine.is_finished (state_of s) ≡ true → record { ending = done; steps = n; works = v; end = state_of s; marks = ms } ≡ rest
  ends_done e = at_zero n done v (state_of s) ms ∙ ap (λ r. past n (ran_by ms r)) (sym (run_done P v (state_of s) (b - n) e))

  pub ends_spent : n ≡ b → Machine.is_finished (state_of s) ≡ false → record { ending = spent; steps = n; works = v; end = state_of s; marks = ms } ≡ rest
  ends_spent q e =
      let z : b - n ≡ 0 = omega arith in
      at_zero n spent v (state_of s) ms ∙ ap (λ r. past n (ran_by ms r)) (sym (ap (λ k. execute P k v (state_of s)) z ∙ run_spent P v (state_of s) e))

  module _ (l : n < b) (on : Machine.is_finished (state_of s) ≡ false) where
    abbrev left : ℕ
    left = b - (n + 1)

    pub turn : (t : State) (u : Works) (ns : Marks) → Goes s t u (stepped_on v s P) → ns ≡ marked_by (Machine.step P v (state_of s)) ms → past (n + 1) (ran_by ns (execute P left u (state_of t))) ≡ rest
    turn t u ns g h =
        let w = went_is (Machine.step P v (state_of s)) (lacks P (state_of s)) (state_of t) u g.1 in
        let r = execute P left u (state_of t) in
        let m : n + 1 + r.steps ≡ n + suc r.steps = omega arith in
        let q = ap (marks_after r.events) (h ∙ ap (λ o. marked_by o ms) w.1) ∙ sym (marks_cons w.0 r.events ms) in
        (λ i. record { ending = r.ending; steps = m i; works = r.works; end = r.end; marks = q i })
        ∙ ap (λ x. past n (ran_by ms x)) (sym (ap (λ k. execute P k v (state_of s)) (less_one n b l) ∙ goes_by P v (state_of s) left on (Machine.stepped (state_of t) u w.0) nothing w.1 w.2))

    stopped : (e : Ending) → execute P (suc left) v (state_of s) ≡ stop e v (state_of s) → record { ending = e; steps = n; works = v; end = state_of s; marks = ms } ≡ rest
    stopped e q = at_zero n e v (state_of s) ms ∙ ap (λ x. past n (ran_by ms x)) (sym (ap (λ k. execute P k v (state_of s)) (less_one n b l) ∙ q))

    silent_ends : (i : Coded) (f : RegisterFault) → Met (record { instrument = i; fault = f }) (stepped_on v s P) → record { ending = fault_ending (Register (record { instrument = i; fault = f })) s.site; steps = n; works = v; end = state_of s; marks = ms } ≡ rest
    silent_ends i (Silent w k) m = stopped (at_silent (instrument_of i) w k) (goes_by P v (state_of s) left on (Machine.silent (instrument_of i) w k) (lacks P (state_of s)) (met_is (Machine.step P v (state_of s)) (lacks P (state_of s)) (instrument_of i) w k m) refl)
    silent_ends i (NotFitted w k) m = absurd m

    fault_ends : (f : StepFault) → Ends {U = Unit {0}} (Err f) s s v v (stepped_on v s P) → record { ending = fault_ending f s.site; steps = n; works = v; end = state_of s; marks = ms } ≡ rest
    fault_ends (Full k) e =
        let w = full_is (Machine.step P v (state_of s)) (lacks P (state_of s)) (kind k) e.2 in
        stopped (at_full (kind k) s.site) (goes_by P v (state_of s) left on (Machine.stepped w.0 w.1 w.2) (some (kind k)) w.3 w.4)
    fault_ends (Register f) e = silent_ends f.instrument f.fault e.2

    pub fault_left : (f : StepFault) (t : State) (u : Works) → Ends {U = Unit {0}} (Err f) s t v u (stepped_on v s P) → (t ≡ s) × (u ≡ v)
    fault_left (Full k) t u e = (e.0, e.1)
    fault_left (Register f) t u e = (e.0, e.1)

    silent_told : (i : Coded) (f : RegisterFault) → Met (record { instrument = i; fault = f }) (stepped_on v s P) → Told (Err (record { fault = Register (record { instrument = i; fault = f }); site = s.site; steps = n }))
    silent_told i (Silent w k) m = silent_here P v (state_of s) (instrument_of i) w k (met_is (Machine.step P v (state_of s)) (lacks P (state_of s)) (instrument_of i) w k m)
    silent_told i (NotFitted w k) m = m

    pub fault_told : (f : StepFault) (t : State) (u : Works) → Ends {U = Unit {0}} (Err f) s t v u (stepped_on v s P) → Told (Err (record { fault = f; site = s.site; steps = n }))
    fault_told (Full k) t u e = tt
    fault_told (Register f) t u e = silent_told f.instrument f.fault e.2

    -- a fault ends the run where it stands
    pub ends_fault : (f : StepFault) (t : State) (u : Works) (ns : Marks) → Ends {U = Unit {0}} (Err f) s t v u (stepped_on v s P) → ns ≡ ms → ran (Err (record { fault = f; site = s.site; steps = n })) (state_of t) u ns ≡ rest
    ends_fault f t u ns e h =
        let q = fault_left f t u e in
        let E : State → Works → Type 0 = λ x y. Ends {U = Unit {0}} (Err f) s x v y (stepped_on v s P) in
        (λ i. ran (Err (record { fault = f; site = s.site; steps = n })) (state_of (q.0 i)) (q.1 i) (h i)) ∙ fault_ends f (subst (λ y. E s y) q.1 (subst (λ x. E x u) q.0 e))
