use Rattle.std.proofs.Common.{length, sym, subst}
use Rattle.machine.specs.Sound.{ContinuationIn}
use Rattle.machine.proofs.Steps.{elem_some, frame_on}
use Rattle.machine.proofs.Sound.{sound}
use Rattle.machine.proofs.parts.State.is_done.Goals as goal

pub returns-in-Back-Frame : goal.returns-in-Back-Frame
returns-in-Back-Frame c =
    let s = c.args.self.now in
    let fs = s.store.frames.items in
    let f = elem_some fs c.in-Back-Frame.field-0-1 (subst (ContinuationIn (length fs)) c.in-Back-Frame.is-1 (sound c.args.self.now).work_in.1) in
    sym (frame_on s c.in-Back-Frame.field-0-0 c.in-Back-Frame.field-0-1 c.in-Back-Frame.is-0 c.in-Back-Frame.is-1 f.0 f.1)
