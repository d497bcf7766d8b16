use Rattle.std.proofs.Common.{◌<◌, Err, sym, ap, ◌∙◌, subst, arith}
use Rattle.calculus.specs.NetworkTyping.{Agrees}
use Rattle.std.proofs.lemmas.Result.{err_from_is_err_and}
use Rattle.calculus.specs.Machine
use Rattle.machine.specs.Meaning.{state_of}
use Rattle.machine.specs.Touching.{StepMarks}
use Rattle.machine.specs.Runs.{ran, Told}
use Rattle.machine.specs.Answers.{Ends, stepped_on, shown, of_terms}
use Rattle.machine.specs.Safe.{Holds}
use Rattle.machine.proofs.Loops.{safe_lands, holds_on, fault_left, halted_ok, halted_err, turn, ends_done, ends_fault, fault_told}
use Rattle.machine.proofs.parts.State.run.Goals as goal

pub step_marked-requires : goal.step_marked-requires
step_marked-requires g c =
    let p = c.requires.holds in
    let P = of_terms c.args.program.now in
    let v = shown (g.W.Gauges.readings c.loop-budget.works) (g.W.Works.settings c.loop-budget.works) in
    let h = c.loop-budget.invariant.0 p.0 p.1 p.2 in
    record { live = safe_lands P p.0 c.loop-budget.self v h.0 h.1 (sym c.loop-budget-test.ensures) }

pub loop-budget-preserved : goal.loop-budget-preserved
loop-budget-preserved g c =
    let P = of_terms c.args.program.now in
    let s = c.loop-budget.self in
    let t = c.step_marked.new.self in
    let v = shown (g.W.Gauges.readings c.loop-budget.works) (g.W.Works.settings c.loop-budget.works) in
    let u = shown (g.W.Gauges.readings c.step_marked.new.works) (g.W.Works.settings c.step_marked.new.works) in
    let o = Machine.step P v (state_of s) in
    let ms = c.loop-budget.marks in
    let ns = c.step_marked.new.marks in
    let ok = halted_ok c.step_marked.result tt s.site c.loop-budget.steps c.in_ok-halted.ensures in
    let e = subst (λ r. Ends r s t v u (stepped_on v s P)) ok c.step_marked.ensures.ends in
    let m = subst (λ r. StepMarks r o ms ns) ok c.step_marked.ensures.marks in
    let on = sym c.loop-budget-test.ensures in
    let lt : c.loop-budget.steps < c.args.budget = omega (arith, c.if-steps-budget.false, c.loop-budget.invariant.1) in
    ((λ S h a. let i = c.loop-budget.invariant.0 S h a in holds_on P S s v i.0 i.1 on t u e), omega arith, turn P s v ms c.loop-budget.steps c.args.budget lt on t u ns e m ∙ c.loop-budget.invariant.2)

pub returns-in_err-halted : goal.returns-in_err-halted
returns-in_err-halted g c =
    let P = of_terms c.args.program.now in
    let s = c.loop-budget.self in
    let t = c.step_marked.new.self in
    let v = shown (g.W.Gauges.readings c.loop-budget.works) (g.W.Works.settings c.loop-budget.works) in
    let u = shown (g.W.Gauges.readings c.step_marked.new.works) (g.W.Works.settings c.step_marked.new.works) in
    let o = Machine.step P v (state_of s) in
    let ms = c.loop-budget.marks in
    let ns = c.step_marked.new.marks in
    let n = c.loop-budget.steps in
    let f = halted_err c.step_marked.result c.in_err-halted.field-0.0 s.site n c.in_err-halted.ensures in
    let e = subst (λ r. Ends r s t v u (stepped_on v s P)) f.1 c.step_marked.ensures.ends in
    let m = subst (λ r. StepMarks r o ms ns) f.1 c.step_marked.ensures.marks in
    let on = sym c.loop-budget-test.ensures in
    let lt : n < c.args.budget = omega (arith, c.if-steps-budget.false, c.loop-budget.invariant.1) in
    let q = fault_left P s v c.loop-budget.marks n c.args.budget lt on f.0 t u e in
    let b = err_from_is_err_and c.from_residual.result c.from_residual.ensures.1 in
    record {
      holds = λ S h a. (let i = c.loop-budget.invariant.0 S h a in (subst (Holds P S) (sym q.0) i.0, subst (Agrees S) (sym q.1) i.1));
      told = subst Told (sym (b.1 ∙ ap Err (b.2 ∙ f.2))) (fault_told P s v ms n c.args.budget lt on f.0 t u e);
      ran = ap (λ r. ran r (state_of t) u ns) (b.1 ∙ ap Err (b.2 ∙ f.2)) ∙ ends_fault P s v ms n c.args.budget lt on f.0 t u ns e m ∙ c.loop-budget.invariant.2;
    }

pub returns : goal.returns
returns g c =
    let P = of_terms c.args.program.now in
    let v = shown (g.W.Gauges.readings c.loop-budget.works) (g.W.Works.settings c.loop-budget.works) in
    record { holds = c.loop-budget.invariant.0; told = tt; ran = ends_done P c.loop-budget.self v c.loop-budget.marks c.loop-budget.steps c.args.budget (sym c.loop-budget-test.ensures) ∙ c.loop-budget.invariant.2 }
