use Rattle.std.proofs.Common.{◌≡◌, ◌-◌, ◌≤◌}
use Rattle.calculus.specs.Types.{Sheet}
use Rattle.calculus.specs.NetworkTyping.{Agrees}
use Rattle.calculus.specs.Run.{execute}
use Rattle.machine.specs.Meaning.{state_of}
use Rattle.machine.specs.Answers.{shown, of_terms}
use Rattle.machine.specs.Safe.{Holds}
use Rattle.machine.specs.Runs.{ran_by, past}
use Rattle.machine.proofs.parts.State.run.Given as goal

abbrev pub invariant-loop-budget : goal.invariant-loop-budget
invariant-loop-budget g l =
    ((S : Sheet) → Holds (of_terms l.program) S l.initial.self → Agrees S (shown (g.W.Gauges.readings l.initial.works) (g.W.Works.settings l.initial.works)) → Holds (of_terms l.program) S l.self × Agrees S (shown (g.W.Gauges.readings l.works) (g.W.Works.settings l.works)))
    × (l.steps ≤ l.budget)
    × (past l.steps (ran_by l.marks (execute (of_terms l.program) (l.budget - l.steps) (shown (g.W.Gauges.readings l.works) (g.W.Works.settings l.works)) (state_of l.self))) ≡ ran_by l.initial.marks (execute (of_terms l.program) l.budget (shown (g.W.Gauges.readings l.initial.works) (g.W.Works.settings l.initial.works)) (state_of l.initial.self)))

abbrev pub decreases-loop-budget : goal.decreases-loop-budget
decreases-loop-budget g l = l.budget - l.steps
