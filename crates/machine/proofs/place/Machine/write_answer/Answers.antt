use Rattle.std.proofs.Common.{List, length, sym, ap, subst}
use Rattle.machine.specs.Sound.{PhaseIn, ValueIn, CellIn, Each}
use Rattle.machine.specs.Meaning.{state_of}
use Rattle.machine.specs.Texts.{answer_line}
use Rattle.machine.specs.Calls.{replied, replied_after}
use Rattle.machine.specs.declared.parts.Cell.{Cell}
use Rattle.machine.proofs.Calling.{no_answer}
use Rattle.machine.proofs.Copies.{a_start}
use Rattle.machine.proofs.Sound.{sound}
use Rattle.machine.proofs.place.Machine.write_answer.Goals as goal

pub invariant_of-cells : goal.invariant_of-cells
invariant_of-cells c =
    let m = c.args.self.now in
    let h = sound m.state in
    record { sound = ∣ subst (λ (xs : List Cell). Each (λ i x. CellIn xs i x) xs) (sym c.as_slice.ensures.value) h.store_in.cells_in ∣₁ }

pub invariant_of-write : goal.invariant_of-write
invariant_of-write c =
    let m = c.args.self.now in
    let h = sound m.state in
    let cs = m.state.store.cells.items in
    record { within = ∣ subst (λ (xs : List Cell). ValueIn xs (length xs) c.in-Back.value) (sym c.as_slice.ensures.value) (subst (PhaseIn cs (length cs)) c.in-Back.is h.work_in.0) ∣₁ }

pub returns-then-not-is_done : goal.returns-then-not-is_done
returns-then-not-is_done c =
    let m = c.args.self.now in
    let f = a_start m.started c.if-is_none.ensures in
    let e = sym (no_answer (state_of m.state) c.if-not-is_done.ensures) in
    rw f.1 (record { value = ap (λ r. replied answer_line r c.args.out.now) e; after = ap (λ r. replied_after answer_line r c.args.out.now) e })
