use Rattle.std.proofs.Common.{length, sym, subst, arith}
use Rattle.machine.specs.Sound.{WorkIn, PhaseIn}
use Rattle.machine.specs.Answers.{Goes, Ends, Lands, shown}
use Rattle.machine.proofs.Growth.{elem_below}
use Rattle.machine.proofs.Stays.{continuation_up}
use Rattle.machine.proofs.Steps.{term_within, eval_step, eval_answer, never_finish, never_abort, return_found, return_answer, frame_step, frame_answer}
use Rattle.machine.proofs.Sound.{sound}
use Rattle.machine.proofs.parts.State.step.Goals as goal

pub row_at-requires : goal.row_at-requires
row_at-requires g c =
    let v = shown (g.W.Gauges.readings c.args.works.now) (g.W.Works.settings c.args.works.now) in
    term_within c.args.program.now v c.args.self.now c.in-Eval-default.term c.in-Eval-default.environment c.in-Eval-default.is-0 c.requires.live

pub evaluate-requires : goal.evaluate-requires
evaluate-requires g c =
    let s = c.args.self.now in
    let v = shown (g.W.Gauges.readings c.args.works.now) (g.W.Works.settings c.args.works.now) in
    let e = eval_step c.args.program.now v s c.in-Eval-default.term c.in-Eval-default.environment c.in-Eval-default.is-0 c.row_at.result c.row_at.ensures in
    record { work = subst (λ p. WorkIn s.store p s.continuation) c.in-Eval-default.is-0 (sound s).work_in; live = subst (Lands s.stations) e c.requires.live }

pub unreachable-requires : goal.unreachable-requires
unreachable-requires g c =
    let v = shown (g.W.Gauges.readings c.args.works.now) (g.W.Works.settings c.args.works.now) in
    never_finish c.args.program.now v c.args.self.now c.in-Back-Finish.field-0-0 c.in-Back-Finish.is-0 c.in-Back-Finish.is-1 c.requires.live

pub unreachable-requires-in-Back-Abort : goal.unreachable-requires-in-Back-Abort
unreachable-requires-in-Back-Abort g c =
    let v = shown (g.W.Gauges.readings c.args.works.now) (g.W.Works.settings c.args.works.now) in
    never_abort c.args.program.now v c.args.self.now c.in-Back-Abort.field-0-0 c.in-Back-Abort.is-0 c.in-Back-Abort.is-1 c.requires.live

pub resume-requires : goal.resume-requires
resume-requires g c =
    let s = c.args.self.now in
    let v = shown (g.W.Gauges.readings c.args.works.now) (g.W.Works.settings c.args.works.now) in
    record {
      phase = subst (PhaseIn s.store.cells.items (length s.store.cells.items)) c.in-Back-Return.is-0 (sound s).work_in.0;
      found = return_found c.args.program.now v s c.in-Back-Return.value c.in-Back-Return.is-0 c.in-Back-Return.site c.in-Back-Return.kept c.in-Back-Return.is-1 c.requires.live;
    }

pub work-requires : goal.work-requires
work-requires g c =
    let s = c.args.self.now in
    let v = shown (g.W.Gauges.readings c.args.works.now) (g.W.Works.settings c.args.works.now) in
    let fs = s.store.frames.items in
    let i = c.in-Back-Frame.top in
    let q = c.frame-task.ensures in
    let f = c.frame-task.result in
    let e = frame_step c.args.program.now v s c.in-Back-Frame.value c.in-Back-Frame.is-0 i c.in-Back-Frame.is-1 f q in
    let h = (sound s).store_in.frames_in i f q in
    let b = elem_below fs i f q in
    record {
      task = h.0;
      work = (subst (PhaseIn s.store.cells.items (length s.store.cells.items)) c.in-Back-Frame.is-0 (sound s).work_in.0, continuation_up i (length fs) f.next (omega arith) h.1);
      live = subst (Lands s.stations) e c.requires.live;
    }

pub returns-in-Eval-default : goal.returns-in-Eval-default
returns-in-Eval-default g c =
    let s = c.args.self.now in
    let v = shown (g.W.Gauges.readings c.args.works.now) (g.W.Works.settings c.args.works.now) in
    let e = eval_answer c.args.program.now v s c.in-Eval-default.term c.in-Eval-default.environment c.in-Eval-default.is-0 c.row_at.result c.row_at.ensures in
    subst (Ends c.evaluate.result s c.evaluate.new.self v v) (sym e) c.evaluate.ensures

pub returns-in-Back-Return : goal.returns-in-Back-Return
returns-in-Back-Return g c =
    let s = c.args.self.now in
    let v = shown (g.W.Gauges.readings c.args.works.now) (g.W.Works.settings c.args.works.now) in
    let e = return_answer c.args.program.now v s c.in-Back-Return.value c.in-Back-Return.is-0 c.in-Back-Return.site c.in-Back-Return.kept c.in-Back-Return.is-1 in
    subst (Goes s c.resume.new.self v) (sym e) (c.resume.ensures v)

pub returns-in-Back-Frame : goal.returns-in-Back-Frame
returns-in-Back-Frame g c =
    let s = c.args.self.now in
    let v = shown (g.W.Gauges.readings c.args.works.now) (g.W.Works.settings c.args.works.now) in
    let u = shown (g.W.Gauges.readings c.work.new.works) (g.W.Works.settings c.work.new.works) in
    let e = frame_answer c.args.program.now v s c.in-Back-Frame.value c.in-Back-Frame.is-0 c.in-Back-Frame.top c.in-Back-Frame.is-1 c.frame-task.result c.frame-task.ensures in
    subst (Ends c.work.result s c.work.new.self v u) (sym e) c.work.ensures
