use Rattle.std.proofs.Common.{◌≡◌, ℕ, List, Option as Maybe, sym, ap, ◌∙◌, subst}
use mathlib.Core.Option.{some}
use lib.ListN.{get_elem?}
use Rattle.lines.specs.declared.refusal.Instrument.TheVariants.{Gauge, Gate}
use Rattle.syntax.specs.declared.program.Term.{Term as TermRow}
use Rattle.calculus.specs.Limits.{lacking, takes, row_rule}
use Rattle.machine.specs.Meaning.{state_of, sites_of, places_of, cells_of}
use Rattle.machine.specs.Answers.{Lands, scope, held, over, of_terms}
use Rattle.machine.specs.Touching.{marked_by, gauge_read, gate_set, of_kind, with_touched, TouchedFits, Touches}
use Rattle.machine.proofs.Steps.{term_within, eval_step, eval_answer, frame_step, frame_answer}
use Rattle.machine.proofs.Touches.{row_marks, task_marks, row_fits, task_fits, kind_marks, kind_fits}
use Rattle.machine.specs.declared.marking.Touched.{Touched}
use Rattle.machine.specs.declared.parts.Environment.{Environment}
use Rattle.machine.specs.declared.parts.Value.{Value}
use Rattle.machine.specs.declared.parts.Frame.{Frame}
use Rattle.machine.specs.declared.parts.Continuation.TheVariants as Cont
use Rattle.machine.specs.declared.parts.Phase.TheVariants as Now
use Rattle.machine.specs.declared.parts.State.{State}
use Rattle.machine.proofs.parts.State.touched.Goals as goal

module _ (ts : List TermRow) (s : State) (o : Maybe Touched) where
  -- a row that is evaluated touches the gauge that it reads
  row_touches : (t : ℕ) (e : Environment) (ph : s.phase ≡ Now.Eval t e) (r : TermRow) (q : get_elem? ts t ≡ some r) → o ≡ of_kind Gauge (gauge_read r) → Touches (of_terms ts) s o
  row_touches t e ph r q k = record {
    marks = λ v L u w ms.
        ap (λ x. marked_by x ms) (eval_step ts v s t e ph r q)
        ∙ row_marks v (sites_of s) s.site (places_of s) ms (over s s.continuation) t (scope s e) r (lacking (takes (row_rule r)) (state_of s)) L u (sym (eval_answer ts v s t e ph r q) ∙ w)
        ∙ kind_marks Gauge (gauge_read r) s.site ms
        ∙ ap (λ x. with_touched x s.site ms) (sym k);
    fits = λ v few _ live. subst TouchedFits (sym k) (kind_fits Gauge (gauge_read r) (row_fits v (sites_of s) s.site (places_of s) s.stations (over s s.continuation) t (scope s e) r few (subst (Lands s.stations) (eval_step ts v s t e ph r q) live)));
  }

  -- a frame that work comes back to touches the gate that its task sets
  frame_touches : (x : Value) (ph : s.phase ≡ Now.Back x) (i : ℕ) (e : s.continuation ≡ Cont.Frame i) (f : Frame) (q : get_elem? s.store.frames.items i ≡ some f) → o ≡ of_kind Gate (gate_set f.task) → Touches (of_terms ts) s o
  frame_touches x ph i e f q k = record {
    marks = λ v L u w ms.
        ap (λ y. marked_by y ms) (frame_step ts v s x ph i e f q)
        ∙ task_marks v (sites_of s) s.site (places_of s) ms (of_terms ts) (cells_of s) (over s f.next) (held s x) f.task _ L u (sym (frame_answer ts v s x ph i e f q) ∙ w)
        ∙ kind_marks Gate (gate_set f.task) s.site ms
        ∙ ap (λ y. with_touched y s.site ms) (sym k);
    fits = λ v _ few live. subst TouchedFits (sym k) (kind_fits Gate (gate_set f.task) (task_fits v (sites_of s) s.site (places_of s) s.stations (of_terms ts) (cells_of s) (over s f.next) (held s x) f.task few (subst (Lands s.stations) (frame_step ts v s x ph i e f q) live)));
  }

pub row_at-requires : goal.row_at-requires
row_at-requires c = let p = c.requires.live in term_within c.args.program.now p.0 c.args.self.now c.in-Eval-default.term c.in-Eval-default.environment-0 c.in-Eval-default.is-0 p.1

pub returns-in-Eval-default : goal.returns-in-Eval-default
returns-in-Eval-default c = row_touches c.args.program.now c.args.self.now c.gauge_of.result c.in-Eval-default.term c.in-Eval-default.environment-0 c.in-Eval-default.is-0 c.row_at.result c.row_at.ensures c.gauge_of.ensures

pub returns-in-Back-Frame : goal.returns-in-Back-Frame
returns-in-Back-Frame c = frame_touches c.args.program.now c.args.self.now c.gate_of.result c.in-Back-Frame.field-0-0 c.in-Back-Frame.is-0 c.in-Back-Frame.top c.in-Back-Frame.is-1 c.frame.result c.frame.ensures c.gate_of.ensures
