-- What a step touches is what its row reads or its task sets.
use Rattle.std.proofs.Common.{◌≡◌, ℕ, ◌<◌, ◌≤◌, cond, ltb, List, [], ◌∷◌, length, Some, None, Option as Maybe, refl, arith}
use mathlib.Core.Option.{Option, some, none as nothing}
use lib.ListN.{get_elem?}
use Rattle.syntax.specs.declared.program.Term.{Term as TermRow}
use Rattle.syntax.specs.declared.program.Term.TheVariants as Row
use Rattle.calculus.specs.Machine
use Rattle.calculus.specs.Program.{Program, body_of}
use Rattle.calculus.specs.Step.{Works, Instrument, a_gauge, a_gate, Event, quiet, looked, was_read, was_set}
use Rattle.calculus.specs.Tables.{entry, count, row}
use Rattle.calculus.specs.Marks.{Marks, marks_after, with_mark}
use Rattle.calculus.specs.Run.Register.{register}
use Rattle.machine.specs.Answers.{went, answered, Lands, instrument_of}
use Rattle.lines.specs.declared.refusal.Instrument.{Instrument as Named}
use Rattle.machine.specs.Touching.{marked_by, gauge_read, gate_set, of_kind, with_touched, TouchedFits}
use Rattle.machine.specs.Meaning.{Meaning, task_of, value_of, environment_of}
use Rattle.machine.proofs.Growth.{elem_below}
use Rattle.machine.specs.declared.parts.Task.{Task}
use Rattle.machine.specs.declared.parts.Task.TheVariants as Does

-- the marks with that of a register of a site, if there is one
abbrev pub touching : Instrument → Option ℕ → ℕ → Marks → Marks
touching κ nothing s ms = ms
touching κ (some n) s ms = with_mark (register κ s n) ms

-- a register's number is one that a works may have
abbrev pub NumberFits : Option ℕ → Type 0
NumberFits nothing = Unit {0}
NumberFits (some n) = n < 32

-- one step's marks, and then the others'
pub marks_cons : (e : Event) (es : List Event) (ms : Marks) → marks_after (e ∷ es) ms ≡ marks_after es (marks_after (e ∷ []) ms)
marks_cons quiet es ms = refl
marks_cons (looked a b c) es ms = refl
marks_cons (was_read s g c) es ms = refl
marks_cons (was_set s g x c) es ms = refl

module _ (v : Works) (H : Machine.Sites) (w : ℕ) (c : Machine.Places) (ms : Marks) where
  looked_quiet : (k : Machine.Continuation) (s l : ℕ) (o : Option Machine.Value) → marked_by (Machine.looked_up v H w c k s l o) ms ≡ ms
  looked_quiet k s l nothing = refl
  looked_quiet k s l (some u) = refl

  value_quiet : (k : Machine.Continuation) (f : Machine.Found) → marked_by (Machine.value_step v H w c k f) ms ≡ ms
  value_quiet k (Machine.a_value u) = refl
  value_quiet k (Machine.a_label s l) = looked_quiet k s l (entry H.published w l)
  value_quiet k Machine.unbound = refl

  resume_quiet : (s : ℕ) (p : Machine.Phase) (o : Option Machine.Continuation) → marked_by (Machine.resume v H w c s p o) ms ≡ ms
  resume_quiet s p nothing = refl
  resume_quiet s p (some k) = refl

  thrown_quiet : (ρ : Machine.Environment) (a : ℕ) (o : Option (ℕ × ℕ)) → marked_by (Machine.thrown v H w c ρ a o) ms ≡ ms
  thrown_quiet ρ a nothing = refl
  thrown_quiet ρ a (some t) = resume_quiet t.0 (Machine.eval a ρ) (entry H.kept t.0 t.1)

  stands-quiet : (o : Option ℕ) (f : ℕ → Machine.State) → marked_by (Machine.stand_at o (λ s. Machine.stepped (f s) v quiet)) ms ≡ ms
  stands-quiet nothing f = refl
  stands-quiet (some s) f = refl

  gauge_marks : (k : Machine.Continuation) (n : ℕ) (o : Option (Maybe ℕ)) (l : Option ℕ) (L : Machine.State) (u : Works) → answered (Machine.gauge_shows v H w c k n o) l ≡ went L u → marked_by (Machine.gauge_shows v H w c k n o) ms ≡ touching a_gauge (some n) w ms
  gauge_marks k n nothing l L u e = absurd (let z : ◌≡◌ {A = ℕ} 0 1 = cc in omega arith)
  gauge_marks k n (some None) l L u e = absurd (let z : ◌≡◌ {A = ℕ} 0 1 = cc in omega arith)
  gauge_marks k n (some (Some x)) l L u e = refl

  gate_marks : (k : Machine.Continuation) (n x : ℕ) (o : Option (Maybe ℕ)) (l : Option ℕ) (L : Machine.State) (u : Works) → answered (Machine.gate_set v H w c k n x o) l ≡ went L u → marked_by (Machine.gate_set v H w c k n x o) ms ≡ touching a_gate (some n) w ms
  gate_marks k n x nothing l L u e = absurd (let z : ◌≡◌ {A = ℕ} 0 1 = cc in omega arith)
  gate_marks k n x (some None) l L u e = absurd (let z : ◌≡◌ {A = ℕ} 0 1 = cc in omega arith)
  gate_marks k n x (some (Some y)) l L u e = refl

  -- evaluating a row marks the gauge that it reads
  pub row_marks : (k : Machine.Continuation) (p : ℕ) (ρ : Machine.Environment) (r : TermRow) (l : Option ℕ) (L : Machine.State) (u : Works) → answered (Machine.row_step v H w c k p ρ r) l ≡ went L u → marked_by (Machine.row_step v H w c k p ρ r) ms ≡ touching a_gauge (gauge_read r) w ms
  row_marks k p ρ (Row.Num n) l L u e = refl
  row_marks k p ρ (Row.Value i) l L u e = value_quiet k (Machine.value_there ρ i)
  row_marks k p ρ (Row.Lam t b) l L u e = refl
  row_marks k p ρ (Row.App a b) l L u e = refl
  row_marks k p ρ (Row.Boxed b) l L u e = refl
  row_marks k p ρ (Row.Unbox a) l L u e = refl
  row_marks k p ρ (Row.Here a) l L u e = refl
  row_marks k p ρ (Row.Letd a b) l L u e = refl
  row_marks k p ρ (Row.Get f y a) l L u e = stands-quiet (Machine.site_given ρ y) (λ s. Machine.state (Machine.keep H w k) s (Machine.return w (count H.kept w)) (Machine.eval a ρ) c)
  row_marks k p ρ (Row.Pair a b) l L u e = refl
  row_marks k p ρ (Row.Fst a) l L u e = refl
  row_marks k p ρ (Row.Snd a) l L u e = refl
  row_marks k p ρ (Row.Letcc t b) l L u e = refl
  row_marks k p ρ (Row.Throw t i a) l L u e = thrown_quiet ρ a (Machine.continuation_there ρ i)
  row_marks k p ρ (Row.Go t y a) l L u e = stands-quiet (Machine.site_given ρ y) (λ s. Machine.state H s Machine.abort (Machine.eval a ρ) c)
  row_marks k p ρ (Row.Gauge n) l L u e = gauge_marks k n (entry v.gauges w n) l L u e
  row_marks k p ρ (Row.Gate n a) l L u e = refl
  row_marks k p ρ (Row.Below t a b x y) l L u e = refl

  number_quiet : (x : Machine.Value) (f : ℕ → Machine.Outcome) → ((n : ℕ) → marked_by (f n) ms ≡ ms) → marked_by (Machine.when_number x f) ms ≡ ms
  number_quiet (Machine.number n) f q = q n
  number_quiet (Machine.function p ρ) f q = refl
  number_quiet (Machine.code p ρ) f q = refl
  number_quiet (Machine.address s l) f q = refl
  number_quiet (Machine.pair a b) f q = refl

  function_quiet : (x : Machine.Value) (f : ℕ → Machine.Environment → Machine.Outcome) → ((p : ℕ) (ρ : Machine.Environment) → marked_by (f p ρ) ms ≡ ms) → marked_by (Machine.when_function x f) ms ≡ ms
  function_quiet (Machine.number n) f q = refl
  function_quiet (Machine.function p ρ) f q = q p ρ
  function_quiet (Machine.code p ρ) f q = refl
  function_quiet (Machine.address s l) f q = refl
  function_quiet (Machine.pair a b) f q = refl

  code_quiet : (x : Machine.Value) (f : ℕ → Machine.Environment → Machine.Outcome) → ((p : ℕ) (ρ : Machine.Environment) → marked_by (f p ρ) ms ≡ ms) → marked_by (Machine.when_code x f) ms ≡ ms
  code_quiet (Machine.number n) f q = refl
  code_quiet (Machine.function p ρ) f q = refl
  code_quiet (Machine.code p ρ) f q = q p ρ
  code_quiet (Machine.address s l) f q = refl
  code_quiet (Machine.pair a b) f q = refl

  address_quiet : (x : Machine.Value) (f : ℕ → ℕ → Machine.Outcome) → ((s l : ℕ) → marked_by (f s l) ms ≡ ms) → marked_by (Machine.when_address x f) ms ≡ ms
  address_quiet (Machine.number n) f q = refl
  address_quiet (Machine.function p ρ) f q = refl
  address_quiet (Machine.code p ρ) f q = refl
  address_quiet (Machine.address s l) f q = q s l
  address_quiet (Machine.pair a b) f q = refl

  pair_quiet : (x : Machine.Value) (f : Machine.Value → Machine.Value → Machine.Outcome) → ((a b : Machine.Value) → marked_by (f a b) ms ≡ ms) → marked_by (Machine.when_pair x f) ms ≡ ms
  pair_quiet (Machine.number n) f q = refl
  pair_quiet (Machine.function p ρ) f q = refl
  pair_quiet (Machine.code p ρ) f q = refl
  pair_quiet (Machine.address s l) f q = refl
  pair_quiet (Machine.pair a b) f q = q a b

  set_marks : (k : Machine.Continuation) (n : ℕ) (x : Machine.Value) (l : Option ℕ) (L : Machine.State) (u : Works) →
      answered (Machine.when_number x (λ y. Machine.gate_set v H w c k n y (entry v.gates w n))) l ≡ went L u →
      marked_by (Machine.when_number x (λ y. Machine.gate_set v H w c k n y (entry v.gates w n))) ms ≡ touching a_gate (some n) w ms
  set_marks k n (Machine.number y) l L u e = gate_marks k n y (entry v.gates w n) l L u e
  set_marks k n (Machine.function p ρ) l L u e = absurd (let z : ◌≡◌ {A = ℕ} 0 1 = cc in omega arith)
  set_marks k n (Machine.code p ρ) l L u e = absurd (let z : ◌≡◌ {A = ℕ} 0 1 = cc in omega arith)
  set_marks k n (Machine.address s i) l L u e = absurd (let z : ◌≡◌ {A = ℕ} 0 1 = cc in omega arith)
  set_marks k n (Machine.pair a b) l L u e = absurd (let z : ◌≡◌ {A = ℕ} 0 1 = cc in omega arith)

  -- going back to a task marks the gate that it sets
  pub task_marks : (P : Program) (cs : List Meaning) (k : Machine.Continuation) (x : Machine.Value) (t : Task) (l : Option ℕ) (L : Machine.State) (u : Works) → answered (Machine.frame_step v H w c P k x (task_of cs t)) l ≡ went L u → marked_by (Machine.frame_step v H w c P k x (task_of cs t)) ms ≡ touching a_gate (gate_set t) w ms
  task_marks P cs k x (Does.Apply a e) l L u q = refl
  task_marks P cs k x (Does.Applied f) l L u q = function_quiet (value_of cs f) (λ p ρ. Machine.binding v H w c k (body_of P p) (Machine.value x ρ)) (λ p ρ. refl)
  task_marks P cs k x Does.Unbox l L u q = code_quiet x _ (λ p ρ. refl)
  task_marks P cs k x Does.Publish l L u q = refl
  task_marks P cs k x (Does.Open b e) l L u q = address_quiet x _ (λ s i. refl)
  task_marks P cs k x (Does.Pair b e) l L u q = refl
  task_marks P cs k x (Does.Paired a) l L u q = refl
  task_marks P cs k x Does.First l L u q = pair_quiet x _ (λ a b. refl)
  task_marks P cs k x Does.Second l L u q = pair_quiet x _ (λ a b. refl)
  task_marks P cs k x (Does.Compare b y z e) l L u q = refl
  task_marks P cs k x (Does.Compared a y z e) l L u q = number_quiet (value_of cs a) (λ m. Machine.when_number x (λ n. Machine.next v H w c k (Machine.eval (cond (ltb m n) y z) (environment_of cs e)))) (λ m. number_quiet x (λ n. Machine.next v H w c k (Machine.eval (cond (ltb m n) y z) (environment_of cs e))) (λ n. refl))
  task_marks P cs k x (Does.Set n) l L u q = set_marks k n x l L u q

-- A register that a step needs is on the works.
module _ (v : Works) (H : Machine.Sites) (w : ℕ) (c : Machine.Places) (m : ℕ) where
  entry_fits : {A : Type 0} (xs : List A) (n : ℕ) (o : Option A) → get_elem? xs n ≡ o → length xs ≤ 32 → (o ≡ nothing → ⊥) → n < 32
  entry_fits xs n nothing e few there = absurd (there refl)
  entry_fits xs n (some x) e few there = let h = elem_below xs n x e in omega arith

  gauge_there : (k : Machine.Continuation) (n : ℕ) (o : Option (Maybe ℕ)) → Lands m (Machine.gauge_shows v H w c k n o) → o ≡ nothing → ⊥
  gauge_there k n nothing h e = h
  gauge_there k n (some x) h e = let z : ◌≡◌ {A = ℕ} 0 1 = cc in omega arith

  gate_there : (k : Machine.Continuation) (n x : ℕ) (o : Option (Maybe ℕ)) → Lands m (Machine.gate_set v H w c k n x o) → o ≡ nothing → ⊥
  gate_there k n x nothing h e = h
  gate_there k n x (some y) h e = let z : ◌≡◌ {A = ℕ} 0 1 = cc in omega arith

  pub row_fits : (k : Machine.Continuation) (p : ℕ) (ρ : Machine.Environment) (r : TermRow) → length (row v.gauges w) ≤ 32 → Lands m (Machine.row_step v H w c k p ρ r) → NumberFits (gauge_read r)
  row_fits k p ρ (Row.Num n) few h = tt
  row_fits k p ρ (Row.Value i) few h = tt
  row_fits k p ρ (Row.Lam t b) few h = tt
  row_fits k p ρ (Row.App a b) few h = tt
  row_fits k p ρ (Row.Boxed b) few h = tt
  row_fits k p ρ (Row.Unbox a) few h = tt
  row_fits k p ρ (Row.Here a) few h = tt
  row_fits k p ρ (Row.Letd a b) few h = tt
  row_fits k p ρ (Row.Get f y a) few h = tt
  row_fits k p ρ (Row.Pair a b) few h = tt
  row_fits k p ρ (Row.Fst a) few h = tt
  row_fits k p ρ (Row.Snd a) few h = tt
  row_fits k p ρ (Row.Letcc t b) few h = tt
  row_fits k p ρ (Row.Throw t i a) few h = tt
  row_fits k p ρ (Row.Go t y a) few h = tt
  row_fits k p ρ (Row.Gauge n) few h = entry_fits (row v.gauges w) n (entry v.gauges w n) refl few (gauge_there k n (entry v.gauges w n) h)
  row_fits k p ρ (Row.Gate n a) few h = tt
  row_fits k p ρ (Row.Below t a b x y) few h = tt

  set_fits : (k : Machine.Continuation) (n : ℕ) (x : Machine.Value) → length (row v.gates w) ≤ 32 → Lands m (Machine.when_number x (λ y. Machine.gate_set v H w c k n y (entry v.gates w n))) → n < 32
  set_fits k n (Machine.number y) few h = entry_fits (row v.gates w) n (entry v.gates w n) refl few (gate_there k n y (entry v.gates w n) h)
  set_fits k n (Machine.function p ρ) few h = absurd h
  set_fits k n (Machine.code p ρ) few h = absurd h
  set_fits k n (Machine.address s i) few h = absurd h
  set_fits k n (Machine.pair a b) few h = absurd h

  pub task_fits : (P : Program) (cs : List Meaning) (k : Machine.Continuation) (x : Machine.Value) (t : Task) → length (row v.gates w) ≤ 32 → Lands m (Machine.frame_step v H w c P k x (task_of cs t)) → NumberFits (gate_set t)
  task_fits P cs k x (Does.Apply a e) few h = tt
  task_fits P cs k x (Does.Applied f) few h = tt
  task_fits P cs k x Does.Unbox few h = tt
  task_fits P cs k x Does.Publish few h = tt
  task_fits P cs k x (Does.Open b e) few h = tt
  task_fits P cs k x (Does.Pair b e) few h = tt
  task_fits P cs k x (Does.Paired a) few h = tt
  task_fits P cs k x Does.First few h = tt
  task_fits P cs k x Does.Second few h = tt
  task_fits P cs k x (Does.Compare b y z e) few h = tt
  task_fits P cs k x (Does.Compared a y z e) few h = tt
  task_fits P cs k x (Does.Set n) few h = set_fits k n x few h

-- a register by its kind and its number, as the code names it
pub kind_marks : (κ : Named) (o : Option ℕ) (s : ℕ) (ms : Marks) → touching (instrument_of κ) o s ms ≡ with_touched (of_kind κ o) s ms
kind_marks κ nothing s ms = refl
kind_marks κ (some n) s ms = refl

pub kind_fits : (κ : Named) (o : Option ℕ) → NumberFits o → TouchedFits (of_kind κ o)
kind_fits κ nothing h = h
kind_fits κ (some n) h = h
