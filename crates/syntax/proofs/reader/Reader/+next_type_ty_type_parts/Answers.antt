use Rattle.std.proofs.Common.{List, set, ◌∷◌, sym, ap, ◌∙◌}
use Rattle.syntax.specs.Grammar.Stop.{close}
use Rattle.syntax.specs.Reading.{Seen}
use Rattle.syntax.specs.Place.{tables}
use Rattle.syntax.specs.declared.program.Ty.{Ty}
use Rattle.syntax.specs.Views.{from, seen}
use Rattle.syntax.proofs.Ends.{with_types, type_begins, type_ends}
use Rattle.syntax.specs.Grammar.{forms}
use Rattle.syntax.specs.declared.grammar.Sort.TheVariants.{Types}
use Rattle.syntax.proofs.Picks.{not_none}
use Rattle.syntax.proofs.reader.Reader.+next_type_ty_type_parts.Goals as goal

pub type_parts-unreachable-requires : goal.type_parts-unreachable-requires
type_parts-unreachable-requires t c = not_none _ c.args.form (forms Types) c.requires.form
    (c.in_default.not-TNum, (c.in_default.not-TNone, (c.in_default.not-TFn, (c.in_default.not-TBox, (c.in_default.not-TAt, (c.in_default.not-TBoth, tt))))))

pub ty-returns : goal.ty-returns
ty-returns t c = λ k vs. type_begins c.args.self.now c.begin.new.self (tables c.args.draft.now) vs c.args.depth k c.in_ok-number.form c.in_ok-number.number c.begin.new.rows.items (c.in_ok-number.ensures.led k) c.in_ok-number.ensures.row.0 c.in_ok-number.ensures.row.1 ∙ c.in_ok-node.ensures.led k (c.in_ok-number.number ∷ vs) ∙ c.in_ok-stop.ensures (close c.in_ok-number.form) k _ (sym c.last.ensures)
    ∙ ap (λ (x : Seen). from c.stop.new.self k x) (type_ends (tables c.type_parts.new.draft) vs c.args.depth c.in_ok-number.number c.in_ok-node.node c.in_ok-number.form c.in_ok-node.ensures.formed)
    ∙ ap (λ (l : List Ty). from c.stop.new.self k (seen (with_types (tables c.type_parts.new.draft) l) (c.in_ok-number.number ∷ vs) c.args.depth)) (sym (c.set.ensures ∙ ap (λ n. set c.type_parts.new.draft.types.items n c.in_ok-node.node) c.from.ensures))
