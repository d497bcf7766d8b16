use Rattle.std.proofs.Common.{ℕ, ◌+◌, ◌*◌, ◌<◌, ◌++◌, codes, subst, arith}
use Rattle.lines.proofs.Pieces.{begins, then, stops}
use Rattle.machine.specs.Meaning.{meanings, value_of, environment_of}
use Rattle.machine.specs.Texts.{value_text, bindings_text, bound_text}
use Rattle.machine.specs.declared.parts.Cell.{Cell}
use Rattle.machine.specs.declared.parts.Cell.TheVariants as Holds
use Rattle.machine.specs.declared.parts.Bound.TheVariants as Bind
use Rattle.machine.specs.declared.parts.Value.TheVariants as Val
use Rattle.machine.specs.declared.parts.Environment.TheVariants as Env
use Rattle.machine.proofs.Props.{cells_out}
use Rattle.machine.proofs.Walks.{place}
use Rattle.machine.proofs.Writers.{reach, pair_text, halves_in, no_binding, stray_text, chain_text, binding_in}
use Rattle.machine.proofs.values.Cells.+put_bindings_put_bound_put_closure_put_pair_put_value.Goals as goal

-- what a read past the cells would give
abbrev stray : Cell
stray = Holds.Binding (Bind.Value (Val.Number 0)) Env.Empty

pub put_bindings-returns-in_default-cells : goal.put_bindings-returns-in_default-cells
put_bindings-returns-in_default-cells t c =
    rw (stray_text c.args.self.cells.now (cells_out c.args.self.cells.now c.args.self.sound) c.args.environment c.in-Cell.place stray c.in-Cell.is c.requires c.in_default-cells.field-0 c.in_default-cells.field-1 c.in_default-cells.is)
    (record { ended = begins c.args.pen.now })

pub put_bindings-returns-in_err-word : goal.put_bindings-returns-in_err-word
put_bindings-returns-in_err-word t c =
    rw (chain_text c.args.self.cells.now (cells_out c.args.self.cells.now c.args.self.sound) c.args.environment c.in-Cell.place stray c.in-Cell.is c.requires c.in-Binding.bound c.in-Binding.rest c.in-Binding.is)
    (stops (codes " ") (bound_text (meanings c.args.self.cells.now) c.in-Binding.bound ++ bindings_text (environment_of (meanings c.args.self.cells.now) c.in-Binding.rest)) c.from_residual.ensures.0 c.in_err-word.ensures.writes.ended)

pub put_bindings-put_bound-requires : goal.put_bindings-put_bound-requires
put_bindings-put_bound-requires t c =
    let b = binding_in c.args.self.cells.now (cells_out c.args.self.cells.now c.args.self.sound) c.args.environment c.in-Cell.place stray c.in-Cell.is c.requires c.in-Binding.bound c.in-Binding.rest c.in-Binding.is in
    (subst (λ (x : ℕ). 4 * reach c.in-Binding.bound + 3 < x) c.decreases b.2, b.0)

pub put_bindings-returns-in_err-put_bound : goal.put_bindings-returns-in_err-put_bound
put_bindings-returns-in_err-put_bound t c =
    rw (chain_text c.args.self.cells.now (cells_out c.args.self.cells.now c.args.self.sound) c.args.environment c.in-Cell.place stray c.in-Cell.is c.requires c.in-Binding.bound c.in-Binding.rest c.in-Binding.is)
    (then c.in_ok-word.ensures.writes.ended (stops (bound_text (meanings c.args.self.cells.now) c.in-Binding.bound) (bindings_text (environment_of (meanings c.args.self.cells.now) c.in-Binding.rest)) c.from_residual-in_err-put_bound.ensures.0 c.in_err-put_bound.ensures.ended))

pub put_bindings-put_bindings-requires : goal.put_bindings-put_bindings-requires
put_bindings-put_bindings-requires t c =
    let b = binding_in c.args.self.cells.now (cells_out c.args.self.cells.now c.args.self.sound) c.args.environment c.in-Cell.place stray c.in-Cell.is c.requires c.in-Binding.bound c.in-Binding.rest c.in-Binding.is in
    (subst (λ (x : ℕ). 4 * place c.in-Binding.rest < x) c.decreases b.3, b.1)

pub put_bindings-returns : goal.put_bindings-returns
put_bindings-returns t c =
    rw (chain_text c.args.self.cells.now (cells_out c.args.self.cells.now c.args.self.sound) c.args.environment c.in-Cell.place stray c.in-Cell.is c.requires c.in-Binding.bound c.in-Binding.rest c.in-Binding.is)
    (then c.in_ok-word.ensures.writes.ended (then c.in_ok-put_bound.ensures.ended c.put_bindings.ensures))

pub put_closure-returns : goal.put_closure-returns
put_closure-returns t c = then c.in_ok-numbered.ensures.ended (then c.in_ok-put_bindings.ensures.ended c.word.ensures.writes)

pub put_pair-unreachable-requires : goal.put_pair-unreachable-requires
put_pair-unreachable-requires t c = no_binding c.args.self.cells.now (cells_out c.args.self.cells.now c.args.self.sound) c.args.place stray c.requires.place c.in_default.field-0 c.in_default.field-1 c.requires.pair c.in_default.is

pub put_pair-returns-in_err-word : goal.put_pair-returns-in_err-word
put_pair-returns-in_err-word t c =
    rw (pair_text c.args.self.cells.now (cells_out c.args.self.cells.now c.args.self.sound) c.args.place stray c.requires.place c.in-Pair.left c.in-Pair.right c.in-Pair.is)
    (stops (codes "(pair ") (value_text (value_of (meanings c.args.self.cells.now) c.in-Pair.left) ++ (codes " " ++ (value_text (value_of (meanings c.args.self.cells.now) c.in-Pair.right) ++ codes ")"))) c.from_residual.ensures.0 c.in_err-word.ensures.writes.ended)

pub put_pair-put_value-requires : goal.put_pair-put_value-requires
put_pair-put_value-requires t c =
    let h = halves_in c.args.self.cells.now (cells_out c.args.self.cells.now c.args.self.sound) c.args.place stray c.requires.place c.in-Pair.left c.in-Pair.right c.in-Pair.is in
    let m = c.decreases in
    (omega (arith, h.2, m), h.0)

pub put_pair-returns-in_err-put_value : goal.put_pair-returns-in_err-put_value
put_pair-returns-in_err-put_value t c =
    rw (pair_text c.args.self.cells.now (cells_out c.args.self.cells.now c.args.self.sound) c.args.place stray c.requires.place c.in-Pair.left c.in-Pair.right c.in-Pair.is)
    (then c.in_ok-word.ensures.writes.ended (stops (value_text (value_of (meanings c.args.self.cells.now) c.in-Pair.left)) (codes " " ++ (value_text (value_of (meanings c.args.self.cells.now) c.in-Pair.right) ++ codes ")")) c.from_residual-in_err-put_value.ensures.0 c.in_err-put_value.ensures.ended))

pub put_pair-returns-in_err-word-2 : goal.put_pair-returns-in_err-word-2
put_pair-returns-in_err-word-2 t c =
    rw (pair_text c.args.self.cells.now (cells_out c.args.self.cells.now c.args.self.sound) c.args.place stray c.requires.place c.in-Pair.left c.in-Pair.right c.in-Pair.is)
    (then c.in_ok-word.ensures.writes.ended (then c.in_ok-put_value.ensures.ended (stops (codes " ") (value_text (value_of (meanings c.args.self.cells.now) c.in-Pair.right) ++ codes ")") c.from_residual-in_err-word-2.ensures.0 c.in_err-word-2.ensures.writes.ended)))

pub put_pair-put_value-requires-2 : goal.put_pair-put_value-requires-2
put_pair-put_value-requires-2 t c =
    let h = halves_in c.args.self.cells.now (cells_out c.args.self.cells.now c.args.self.sound) c.args.place stray c.requires.place c.in-Pair.left c.in-Pair.right c.in-Pair.is in
    let m = c.decreases in
    (omega (arith, h.3, m), h.1)

pub put_pair-returns-in_err-put_value-2 : goal.put_pair-returns-in_err-put_value-2
put_pair-returns-in_err-put_value-2 t c =
    rw (pair_text c.args.self.cells.now (cells_out c.args.self.cells.now c.args.self.sound) c.args.place stray c.requires.place c.in-Pair.left c.in-Pair.right c.in-Pair.is)
    (then c.in_ok-word.ensures.writes.ended (then c.in_ok-put_value.ensures.ended (then c.in_ok-word-2.ensures.writes.ended (stops (value_text (value_of (meanings c.args.self.cells.now) c.in-Pair.right)) (codes ")") c.from_residual-in_err-put_value-2.ensures.0 c.in_err-put_value-2.ensures.ended))))

pub put_pair-returns : goal.put_pair-returns
put_pair-returns t c =
    rw (pair_text c.args.self.cells.now (cells_out c.args.self.cells.now c.args.self.sound) c.args.place stray c.requires.place c.in-Pair.left c.in-Pair.right c.in-Pair.is)
    (then c.in_ok-word.ensures.writes.ended (then c.in_ok-put_value.ensures.ended (then c.in_ok-word-2.ensures.writes.ended (then c.in_ok-put_value-2.ensures.ended c.word-3.ensures.writes))))
