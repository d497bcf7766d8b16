-- The answers of the rules that look up a world, a continuation or a gauge, once it is found.
use Rattle.std.proofs.Common.{◌≡◌, ℕ, Some, None, Ok, Err, Option as Maybe, Result, sym, refl, ap, ◌∙◌, subst, arith}
use mathlib.Core.Option.{Option, some, none as nothing}
use Rattle.machine.specs.Answers.{unanswered}
use Rattle.lines.specs.declared.refusal.Unanswered.{Unanswered}
use Rattle.lines.specs.declared.refusal.Instrument.{Instrument as Coded}
use Rattle.lines.specs.declared.refusal.RegisterFault.{RegisterFault}
use Rattle.lines.specs.declared.refusal.RegisterFault.TheVariants.{Silent}
use Rattle.syntax.specs.declared.program.Mobile.{Mobile}
use Rattle.syntax.specs.declared.program.Mobile.TheVariants.{Code, Address, Number}
use Rattle.syntax.specs.declared.program.World.{World}
use Rattle.syntax.specs.declared.program.Term.TheVariants as Row
use Rattle.instruments.specs.Registers.{asked}
use Rattle.calculus.specs.Machine
use Rattle.calculus.specs.Step.{Works, quiet}
use Rattle.calculus.specs.Tables.{entry, count}
use Rattle.calculus.specs.Limits.{lacking, takes, get_rule, no_place, a_kept}
use Rattle.machine.specs.Meaning.{state_of, sites_of, places_of}
use Rattle.machine.specs.Answers.{Lands, Met, answered, scope, over, evaluated, getting, leaving, resuming, gauged}
use Rattle.machine.proofs.Asks.{told, asked_told, shown_told}
use Rattle.machine.specs.declared.parts.Environment.{Environment}
use Rattle.machine.specs.declared.parts.Phase.TheVariants as Now
use Rattle.machine.specs.declared.parts.State.{State}
use Rattle.lines.specs.declared.refusal.Instrument.TheVariants.{Gauge, Gate}
use Rattle.machine.specs.declared.parts.Continuation.{Continuation}

get_takes : (f : Mobile) → takes (get_rule f) ≡ a_kept
get_takes Code = refl
get_takes Address = refl
get_takes Number = refl

module _ (v : Works) (s : State) (p : ℕ) (e : Environment) where
  pub get_answer : (f : Mobile) (w : World) (a t : ℕ) → Machine.site_given (scope s e) w ≡ some t → evaluated v s p e (Row.Get f w a) ≡ getting v s t a e
  get_answer f w a t q =
      ap (λ o. answered (Machine.stand_at o (λ t. Machine.stepped (Machine.state (Machine.keep (sites_of s) s.site (over s s.continuation)) t (Machine.return s.site (count (sites_of s).kept s.site)) (Machine.eval a (scope s e)) (places_of s)) v quiet)) (lacking (takes (get_rule f)) (state_of s))) q
      ∙ ap (λ k. answered (Machine.stepped (Machine.state (Machine.keep (sites_of s) s.site (over s s.continuation)) t (Machine.return s.site (count (sites_of s).kept s.site)) (Machine.eval a (scope s e)) (places_of s)) v quiet) (lacking k (state_of s))) (get_takes f)

  pub go_answer : (y : ℕ) (w : World) (a t : ℕ) → Machine.site_given (scope s e) w ≡ some t → evaluated v s p e (Row.Go y w a) ≡ leaving v s t a e
  go_answer y w a t q = ap (λ o. answered (Machine.stand_at o (λ t. Machine.stepped (Machine.state (sites_of s) t Machine.abort (Machine.eval a (scope s e)) (places_of s)) v quiet)) (lacking no_place (state_of s))) q

  pub throw_answer : (y i a t c : ℕ) → Machine.continuation_there (scope s e) i ≡ some (t, c) → evaluated v s p e (Row.Throw y i a) ≡ resuming v s t c (Now.Eval a e)
  throw_answer y i a t c q = ap (λ o. answered (Machine.thrown v (sites_of s) s.site (places_of s) (scope s e) a o) (lacking no_place (state_of s))) q

module _ (v : Works) (s : State) (n : ℕ) where
  abbrev showing : Option (Maybe ℕ) → Machine.Outcome
  showing o = Machine.gauge_shows v (sites_of s) s.site (places_of s) (over s s.continuation) n o

  silence : (o : Option (Maybe ℕ)) (f : RegisterFault) (l : Option ℕ) → Lands s.stations (showing o) → told s.site n o ≡ Err f → Met (record { instrument = Gauge; fault = f }) (answered (showing o) l)
  silence nothing f l h e = absurd h
  silence (some None) f l h e = let q : Silent s.site n ≡ f = cc in subst (λ x. Met (record { instrument = Gauge; fault = x }) (answered (showing (some None)) l)) q refl
  silence (some (Some x)) f l h e = absurd (let z : ◌≡◌ {A = ℕ} 0 1 = cc in omega arith)

  -- a gauge that does not answer is silent
  pub gauge_silent : (f : RegisterFault) (l : Option ℕ) → Lands s.stations (gauged v s n) → asked v.gauges s.site n ≡ Err f → Met (record { instrument = Gauge; fault = f }) (answered (gauged v s n) l)
  gauge_silent f l h e = silence (entry v.gauges s.site n) f l h (sym (asked_told v.gauges s.site n) ∙ e)

  -- a gauge that answers shows that number
  pub gauge_shown : (x : ℕ) → asked v.gauges s.site n ≡ Ok x → entry v.gauges s.site n ≡ some (Some x)
  gauge_shown x e = shown_told s.site n x (entry v.gauges s.site n) (sym (asked_told v.gauges s.site n) ∙ e)

-- the register's own answer, out of what the step makes of it
pub fault_of : {A : Type 0} (i : Coded) (u : Unanswered) (r : Result A RegisterFault) → Err u ≡ unanswered i r → (f : RegisterFault) × (r ≡ Err f) × (u ≡ record { instrument = i; fault = f })
fault_of i u (Ok a) e = absurd (let z : ◌≡◌ {A = ℕ} 0 1 = cc in omega arith)
fault_of i u (Err f) e = (f, refl, cc)

pub answer_of : {A : Type 0} (i : Coded) (a : A) (r : Result A RegisterFault) → Ok a ≡ unanswered i r → r ≡ Ok a
answer_of i a (Ok b) e = let q : b ≡ a = cc in ap Ok q
answer_of i a (Err f) e = absurd (let z : ◌≡◌ {A = ℕ} 0 1 = cc in omega arith)

-- the same of gates
module _ (v : Works) (s : State) (next : Continuation) (g x : ℕ) where
  abbrev gate_showing : Option (Maybe ℕ) → Machine.Outcome
  gate_showing o = Machine.gate_set v (sites_of s) s.site (places_of s) (over s next) g x o

  gate_silence : (o : Option (Maybe ℕ)) (f : RegisterFault) (l : Option ℕ) → Lands s.stations (gate_showing o) → told s.site g o ≡ Err f → Met (record { instrument = Gate; fault = f }) (answered (gate_showing o) l)
  gate_silence nothing f l h e = absurd h
  gate_silence (some None) f l h e = let q : Silent s.site g ≡ f = cc in subst (λ y. Met (record { instrument = Gate; fault = y }) (answered (gate_showing (some None)) l)) q refl
  gate_silence (some (Some y)) f l h e = absurd (let z : ◌≡◌ {A = ℕ} 0 1 = cc in omega arith)

  pub gate_silent : (f : RegisterFault) (l : Option ℕ) → Lands s.stations (gate_showing (entry v.gates s.site g)) → asked v.gates s.site g ≡ Err f → Met (record { instrument = Gate; fault = f }) (answered (gate_showing (entry v.gates s.site g)) l)
  gate_silent f l h e = gate_silence (entry v.gates s.site g) f l h (sym (asked_told v.gates s.site g) ∙ e)

  pub gate_shown : (y : ℕ) → asked v.gates s.site g ≡ Ok y → entry v.gates s.site g ≡ some (Some y)
  gate_shown y e = shown_told s.site g y (entry v.gates s.site g) (sym (asked_told v.gates s.site g) ∙ e)
