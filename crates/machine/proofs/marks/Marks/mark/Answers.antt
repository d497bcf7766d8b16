use Rattle.std.proofs.Common.{◌≡◌, ℕ, ◌+◌, ◌*◌, ◌<◌, true, length, set, sym, ap, ◌∙◌, arith}
use Rattle.calculus.specs.Run.{register}
use Rattle.calculus.specs.Marks.{mark_of, with_mark}
use Rattle.lines.specs.declared.refusal.Instrument.{Instrument}
use Rattle.machine.specs.Answers.{instrument_of}
use Rattle.machine.specs.Marks.{bits_of}
use Rattle.machine.proofs.Marked.{index_marked}
use Rattle.machine.proofs.marks.Marks.mark.Goals as goal
use Rattle.machine.proofs.marks.Marks.mark.Goals.{in-Gauge, in-Gate}

pub returns : goal.returns
returns c =
    let bs = c.self.inside.bytes in
    let m : ℕ = c.match-instrument.first + c.args.number in
    let mark : Instrument → ℕ = λ i. mark_of (register (instrument_of i) c.args.site c.args.number) in
    let index : m ≡ mark c.args.instrument = elim c.match-instrument.branch [
      | in-Gauge w ↦ ap (λ (n : ℕ). n + c.args.number) w.first-is ∙ ap mark (sym w.in-Gauge.is)
      | in-Gate w ↦ ap (λ (n : ℕ). n + c.args.number) w.first-is ∙ ap mark (sym w.in-Gate.is)
    ] in
    let long = c.self.told in
    let within : m < 8 * length bs = elim c.match-instrument.branch [ in-Gauge w ↦ omega (arith, w.first-is) | in-Gate w ↦ omega (arith, w.first-is) ] in
    index_marked bs m within ∙ ap (λ (x : ℕ). set (bits_of bs) x true) index ∙ ap (with_mark (register (instrument_of c.args.instrument) c.args.site c.args.number)) c.self.view_is
