-- The step at each shape of the state.
use Rattle.std.proofs.Common.{◌≡◌, ℕ, zero, suc, ◌<◌, true, false, List, [], ◌∷◌, length, refl, ap, ◌∙◌, subst, arith}
use mathlib.Core.Option.{Option, some, none as nothing}
use lib.ListN.{get_elem?}
use Rattle.syntax.specs.declared.program.Term.{Term as TermRow}
use Rattle.calculus.specs.Machine
use Rattle.calculus.specs.Program.{Program}
use Rattle.calculus.specs.Step.{Works}
use Rattle.calculus.specs.Tables.{entry}
use Rattle.calculus.specs.Limits.{lacks, lacking, lacking_for, eval_rule, back_rule, takes, row_rule, frame_rule}
use Rattle.machine.specs.Meaning.{cells_of, sites_of, places_of, state_of, phase_of, task_of}
use Rattle.machine.specs.Answers.{Lands, answered, is_some, scope, held, over, of_terms, stepped_on, evaluated, row_stepped, resuming, framed, worked}
use Rattle.machine.proofs.Stays.{chains_read}
use Rattle.machine.specs.declared.parts.Environment.{Environment}
use Rattle.machine.specs.declared.parts.Value.{Value}
use Rattle.machine.specs.declared.parts.Frame.{Frame}
use Rattle.machine.specs.declared.parts.Continuation.{Continuation}
use Rattle.machine.specs.declared.parts.Continuation.TheVariants as Cont
use Rattle.machine.specs.declared.parts.Phase.{Phase}
use Rattle.machine.specs.declared.parts.Phase.TheVariants as Now
use Rattle.machine.specs.declared.parts.State.{State}
use Rattle.machine.proofs.Sound.{sound}

pub elem_within : {A : Type 0} (xs : List A) (i : ℕ) → is_some (get_elem? xs i) ≡ true → i < length xs
elem_within [] i e = absurd (grind arith)
elem_within (x ∷ xs) zero e = omega arith
elem_within (x ∷ xs) (suc i) e = let h = elem_within xs i e in omega arith

pub elem_some : {A : Type 0} (xs : List A) (i : ℕ) → i < length xs → (x : A) × (get_elem? xs i ≡ some x)
elem_some [] i h = absurd (omega arith)
elem_some (x ∷ xs) zero h = (x, refl)
elem_some (x ∷ xs) (suc i) h = elem_some xs i (omega arith)

-- a rule that fits finds what it looks for
pub wants_row : (m : ℕ) (v : Works) (H : Machine.Sites) (w : ℕ) (c : Machine.Places) (k : Machine.Continuation) (p : ℕ) (ρ : Machine.Environment) (o : Option TermRow) → Lands m (Machine.eval_step v H w c k p ρ o) → is_some o ≡ true
wants_row m v H w c k p ρ nothing h = absurd h
wants_row m v H w c k p ρ (some r) h = refl

pub wants_kept : (m : ℕ) (v : Works) (H : Machine.Sites) (w : ℕ) (c : Machine.Places) (t : ℕ) (p : Machine.Phase) (o : Option Machine.Continuation) → Lands m (Machine.resume v H w c t p o) → is_some o ≡ true
wants_kept m v H w c t p nothing h = absurd h
wants_kept m v H w c t p (some k) h = refl

module _ (ts : List TermRow) (v : Works) (s : State) where
  abbrev P : Program
  P = of_terms ts

  -- the state with another continuation and phase
  abbrev M : Machine.Continuation → Phase → Machine.State
  M k p = Machine.state (sites_of s) s.site k (phase_of (cells_of s) p) (places_of s)

  module _ (t : ℕ) (e : Environment) (ph : s.phase ≡ Now.Eval t e) where
    at_eval : Machine.step P v (state_of s) ≡ Machine.eval_step v (sites_of s) s.site (places_of s) (over s s.continuation) t (scope s e) (get_elem? ts t)
    at_eval = ap (λ p. Machine.step P v (M (over s s.continuation) p)) ph

    pub term_within : Lands s.stations (Machine.step P v (state_of s)) → t < length ts
    term_within live = elem_within ts t (wants_row s.stations v (sites_of s) s.site (places_of s) (over s s.continuation) t (scope s e) (get_elem? ts t) (subst (Lands s.stations) at_eval live))

    module _ (r : TermRow) (q : get_elem? ts t ≡ some r) where
      pub eval_step : Machine.step P v (state_of s) ≡ row_stepped v s t e r
      eval_step = at_eval ∙ ap (Machine.eval_step v (sites_of s) s.site (places_of s) (over s s.continuation) t (scope s e)) q

      eval_lacks : lacks P (state_of s) ≡ lacking (takes (row_rule r)) (state_of s)
      eval_lacks = ap (λ p. lacks P (M (over s s.continuation) p)) ph ∙ ap (λ o. lacking_for (eval_rule o) (M (over s s.continuation) (Now.Eval t e))) q

      pub eval_answer : stepped_on v s P ≡ evaluated v s t e r
      eval_answer = (λ i. answered (eval_step i) (eval_lacks i))

  module _ (u : Value) (ph : s.phase ≡ Now.Back u) where
    at_back : (k : Continuation) → s.continuation ≡ k → Machine.step P v (state_of s) ≡ Machine.back_step v (sites_of s) s.site (places_of s) P (held s u) (over s k)
    at_back k e = ap (λ p. Machine.step P v (M (over s s.continuation) p)) ph ∙ ap (λ x. Machine.step P v (M (over s x) (Now.Back u))) e

    lacks_back : (k : Continuation) → s.continuation ≡ k → lacks P (state_of s) ≡ lacking_for (back_rule (over s k)) (M (over s k) (Now.Back u))
    lacks_back k e = ap (λ p. lacks P (M (over s s.continuation) p)) ph ∙ ap (λ x. lacking_for (back_rule (over s x)) (M (over s x) (Now.Back u))) e

    pub never_finish : s.continuation ≡ Cont.Finish → Lands s.stations (Machine.step P v (state_of s)) → ⊥
    never_finish e live = subst (Lands s.stations) (at_back Cont.Finish e) live

    pub never_abort : s.continuation ≡ Cont.Abort → Lands s.stations (Machine.step P v (state_of s)) → ⊥
    never_abort e live = subst (Lands s.stations) (at_back Cont.Abort e) live

    module _ (w c : ℕ) (e : s.continuation ≡ Cont.Return w c) where
      pub return_found : Lands s.stations (Machine.step P v (state_of s)) → is_some (entry (sites_of s).kept w c) ≡ true
      return_found live = wants_kept s.stations v (sites_of s) s.site (places_of s) w (Machine.back (held s u)) (entry (sites_of s).kept w c) (subst (Lands s.stations) (at_back (Cont.Return w c) e) live)

      pub return_answer : stepped_on v s P ≡ resuming v s w c (Now.Back u)
      return_answer = λ i. answered (at_back (Cont.Return w c) e i) (lacks_back (Cont.Return w c) e i)

    module _ (i : ℕ) (e : s.continuation ≡ Cont.Frame i) (f : Frame) (q : get_elem? s.store.frames.items i ≡ some f) where
      top : over s (Cont.Frame i) ≡ Machine.push (task_of (cells_of s) f.task) (over s f.next)
      top = chains_read (cells_of s) s.store.cells.items s.store.frames.items i f (sound s).store_in.frames_in q

      pub frame_step : Machine.step P v (state_of s) ≡ framed v s P f.next u f.task
      frame_step = at_back (Cont.Frame i) e ∙ ap (Machine.back_step v (sites_of s) s.site (places_of s) P (held s u)) top

      frame_lacks : lacks P (state_of s) ≡ lacking (takes (frame_rule (task_of (cells_of s) f.task))) (state_of s)
      frame_lacks = lacks_back (Cont.Frame i) e ∙ ap (λ k. lacking_for (back_rule k) (M k (Now.Back u))) top

      pub frame_answer : stepped_on v s P ≡ worked v s P f.next u f.task
      frame_answer = λ j. answered (frame_step j) (frame_lacks j)

-- a frame on top is not the end
pub frame_on : (s : State) (u : Value) (i : ℕ) → s.phase ≡ Now.Back u → s.continuation ≡ Cont.Frame i → (f : Frame) → get_elem? s.store.frames.items i ≡ some f → Machine.is_finished (state_of s) ≡ false
frame_on s u i ph e f q =
    ap (λ p. Machine.is_finished (Machine.state (sites_of s) s.site (over s s.continuation) (phase_of (cells_of s) p) (places_of s))) ph
    ∙ ap (λ k. Machine.is_finished (Machine.state (sites_of s) s.site (over s k) (Machine.back (held s u)) (places_of s))) e
    ∙ ap (λ k. Machine.is_finished (Machine.state (sites_of s) s.site k (Machine.back (held s u)) (places_of s))) (chains_read (cells_of s) s.store.cells.items s.store.frames.items i f (sound s).store_in.frames_in q)
