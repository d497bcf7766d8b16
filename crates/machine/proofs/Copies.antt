-- What an accepted program gives a machine that starts it.
use Rattle.std.proofs.Common.{◌≡◌, ℕ, zero, suc, ◌+◌, ◌<◌, ◌≤◌, true, List, [], ◌∷◌, length, get_or, Some, None, Ok, Option as Maybe, is_some, sym, refl, ap, ◌∙◌, subst, arith}
use mathlib.Core.Option.{Option, some}
use mathlib.Core.Logic.{∥∥₁_elim}
use Rattle.instruments.specs.declared.sheet.Station.{Station}
use Rattle.instruments.specs.Fitted.{Fitted}
use Rattle.instruments.specs.Sheets.{stations_of}
use Rattle.calculus.specs.Types.{gauges_there, gates_there}
use Rattle.syntax.specs.Sound.{TySound, TermSound}
use Rattle.syntax.specs.Tests.{sound_test}
use Rattle.syntax.proofs.Tests.{Tested, test_says}
use Rattle.syntax.specs.declared.program.Ty.{Ty as TypeRow}
use Rattle.syntax.specs.declared.program.Ty.TheVariants as Written
use Rattle.syntax.specs.declared.program.Term.{Term as TermRow}
use Rattle.syntax.specs.declared.program.Term.TheVariants as Row
use Rattle.calculus.specs.Types.{Ty}
use Rattle.calculus.specs.Machine
use Rattle.calculus.specs.Program.{Program, Above, Sorted, Ordered, WellTyped}
use Rattle.calculus.specs.Checker.{typed, check, Verdict}
use Rattle.calculus.specs.Marked.{Marked, start_marked, OnLimits}
use Rattle.calculus.proofs.Marked.{marks_law}
use Rattle.calculus.proofs.Checking.{check_decides}
use Rattle.calculus.proofs.Effects.{agrees_after}
use Rattle.calculus.proofs.Simulation.{simulation}
use Rattle.calculus.proofs.MachineRuns.{states_stand}
use Rattle.calculus.proofs.Logs.{log_law}
use Rattle.checker.specs.Accepting.{Place}
use Rattle.checker.specs.Accepting.Place.{empty, full}
use Rattle.checker.specs.Holding.{Views, Carries}
use Rattle.checker.specs.Sheeting.{place_stations}
use Rattle.checker.proofs.Whole.{sorted_types}
use Rattle.machine.specs.Answers.{of_terms}
use Rattle.machine.specs.Meaning.{state_of}
use Rattle.machine.specs.Safe.{Holds, Carried}
use Rattle.machine.specs.Calls.{start_answered, started_into, LawOf, MarksLawOf}
use Rattle.machine.proofs.Held.{holds_prop}
use Rattle.machine.proofs.Typed.{started_holds}
use Rattle.machine.specs.declared.parts.State.{State}
use Rattle.machine.specs.declared.place.Machine.{Machine as MachinePlace}
use Rattle.machine.specs.declared.place.Started.{Started}

-- the parts of a sound row have larger numbers
sound_above : (types n high : ℕ) (r : TermRow) → TermSound types (n + 1) high r → Above n r
sound_above types n high (Row.Num k) s = tt
sound_above types n high (Row.Value k) s = tt
sound_above types n high (Row.Lam t a) s = omega (arith, s.1.0)
sound_above types n high (Row.App a b) s = (omega (arith, s.0.0), omega (arith, s.1.0))
sound_above types n high (Row.Boxed a) s = omega (arith, s.0)
sound_above types n high (Row.Unbox a) s = omega (arith, s.0)
sound_above types n high (Row.Here a) s = omega (arith, s.0)
sound_above types n high (Row.Letd a b) s = (omega (arith, s.0.0), omega (arith, s.1.0))
sound_above types n high (Row.Get m w a) s = omega (arith, s.1.0)
sound_above types n high (Row.Pair a b) s = (omega (arith, s.0.0), omega (arith, s.1.0))
sound_above types n high (Row.Fst a) s = omega (arith, s.0)
sound_above types n high (Row.Snd a) s = omega (arith, s.0)
sound_above types n high (Row.Letcc t a) s = omega (arith, s.1.0)
sound_above types n high (Row.Throw t k a) s = omega (arith, s.2.0)
sound_above types n high (Row.Go t w a) s = omega (arith, s.2.0)
sound_above types n high (Row.Gauge k) s = tt
sound_above types n high (Row.Gate k a) s = omega (arith, s.1.0)
sound_above types n high (Row.Below t a b c d) s = (omega (arith, s.1.0), omega (arith, s.2.0), omega (arith, s.3.0), omega (arith, s.4.0))

sorted_terms : (types high k : ℕ) (rows : List TermRow) → ((n : ℕ) → n < length rows → TermSound types (k + n + 1) high (get_or rows n (Row.Num 0))) → Sorted Above k rows
sorted_terms types high k [] h = tt
sorted_terms types high k (r ∷ rs) h = (
  sound_above types k high r (subst (λ m. TermSound types m high r) (let e : k + 0 + 1 ≡ k + 1 = omega arith in e) (h 0 (omega arith))),
  sorted_terms types high (suc k) rs (λ n l. subst (λ m. TermSound types m high (get_or rs n (Row.Num 0))) (let e : k + suc n + 1 ≡ suc k + n + 1 = omega arith in e) (h (suc n) (omega arith))),
)

module _ (P : Program) (sound : sound_test P.types P.terms P.sheet ≡ true) where
  tested : Tested P.types P.terms P.sheet
  tested = test_says P.types P.terms P.sheet sound

  pub ordered : Ordered P
  ordered = record {
    terms = sorted_terms (length P.types) (length P.terms) 0 P.terms (λ n h. subst (λ m. TermSound (length P.types) m (length P.terms) (get_or P.terms n (Row.Num 0))) (let e : n + 1 ≡ 0 + n + 1 = omega arith in e) (tested.terms_sound n h));
    types = sorted_types (length P.types) 0 P.types (λ n h. subst (λ m. TySound m (length P.types) (get_or P.types n Written.Num)) (let e : n + 1 ≡ 0 + n + 1 = omega arith in e) (tested.types_sound n h));
  }

well_typed : (P : Program) (A : Ty) → check P ≡ typed A → WellTyped P A
well_typed P A e = (subst (Verdict (WellTyped P)) e (check_decides P)).0

-- a started copy of an accepted program
pub copy_holds : (P : Program) (A : Ty) (s : State) → sound_test P.types P.terms P.sheet ≡ true → check P ≡ typed A → s.stations ≡ length P.sheet → state_of s ≡ Machine.started P → Holds (of_terms P.terms) P.sheet s
copy_holds P A s sound e n m = let o = ordered P sound in started_holds P A s (states_stand P A o) (simulation P o) agrees_after (well_typed P A e) n m

-- a sheet is within the limits, site by site
few_there : (xs : List Station) → Fitted xs → (s : ℕ) → (gauges_there xs s ≤ 32) × (gates_there xs s ≤ 32)
few_there [] f s = (omega arith, omega arith)
few_there (x ∷ xs) f zero = f 0 x (omega arith)
few_there (x ∷ xs) f (suc s) = few_there xs (λ k d h. f (suc k) d (omega arith)) s

pub on_limits : (xs : List Station) → length xs ≤ 16 → Fitted xs → OnLimits xs
on_limits xs h f = (h, few_there xs f)

-- the tables that were copied, and what is started from them
module _ (types : List TypeRow) (terms : List TermRow) (stations : List Station) (start : ℕ) where
  abbrev pub copied : Program
  copied = record { sheet = stations; types = types; terms = terms; start = start }

  pub is_copy : (P : Program) (A : Ty) → Views (full P A) types terms start → Ok stations ≡ place_stations (full P A) → copied ≡ P
  is_copy P A w q = let s : stations ≡ P.sheet = cc in λ i. record { sheet = s i; types = w.0 i; terms = w.1 i; start = w.2 i }

  pub start_within : (Q : Place) → Views Q types terms start → Carries Q → Ok stations ≡ place_stations Q → start < length stations
  start_within empty w k q = absurd w
  start_within (full P A) w k q = subst (λ (p : Program). p.start < length p.sheet) (sym (is_copy P A w q)) (well_typed P A k.1).0

  pub started_copy : (Q : Place) (s : State) → Views Q types terms start → Carries Q → Ok stations ≡ place_stations Q → s.stations ≡ length stations → state_of s ≡ Machine.started copied → Holds (of_terms terms) stations s
  started_copy empty s w k q n m = absurd w
  started_copy (full P A) s w k q n m =
      let e = is_copy P A w q in
      subst (λ (p : Program). Holds (of_terms p.terms) p.sheet s) (sym e) (copy_holds P A s k.0 k.1 (n ∙ ap (λ (p : Program). length p.sheet) e) (m ∙ ap Machine.started e))

  -- what a start answers and leaves
  pub start_tells : OnLimits stations → (Q : Place) → Views Q types terms start → Carries Q → Ok stations ≡ place_stations Q → (p : Option Marked) → (Ok tt ≡ start_answered Q) × (some (start_marked copied) ≡ started_into p Q) × LawOf Q × MarksLawOf Q
  start_tells few empty w k q p = absurd w
  start_tells few (full P A) w k q p = (refl, ap (λ (x : Program). some (start_marked x)) (is_copy P A w q), log_law P A (ordered P k.0) k.1, marks_law P (subst (λ (p : Program). OnLimits p.sheet) (is_copy P A w q) few))

module _ (m : MachinePlace) where
  pub kept_holds : (d : Started) → m.started ≡ Some d → Holds (of_terms m.terms.items) (stations_of d.sheet) m.state
  kept_holds d e = ∥∥₁_elim (subst (λ o. ∥ Carried o m.terms.items m.state ∥₁) e m.carried) (holds_prop (of_terms m.terms.items) (stations_of d.sheet) m.state) (λ k. k)

-- a start that is there
pub a_start : (o : Maybe Started) → is_some o ≡ true → (d : Started) × o ≡ Some d
a_start (Some d) e = (d, refl)
a_start None e = absurd (grind (arith, e))
