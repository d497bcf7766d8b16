use Rattle.std.proofs.Common.{List, set, ◌∷◌, sym, ap, ◌∙◌, arith}
use Rattle.syntax.specs.Grammar.Stop.{close}
use Rattle.syntax.specs.Reading.{Seen}
use Rattle.syntax.specs.Place.{tables}
use Rattle.syntax.specs.declared.program.Term.{Term}
use Rattle.syntax.specs.Views.{from, seen, longer}
use Rattle.syntax.proofs.Ends.{with_terms, term_begins, term_ends}
use Rattle.syntax.proofs.Picks.{not_none, in_longer}
use Rattle.syntax.proofs.reader.Reader.+below_get_go_more_parts_next_term_term_term_parts_throw.Goals as goal

pub more_parts-unreachable-requires : goal.more_parts-unreachable-requires
more_parts-unreachable-requires t c = not_none _ c.args.form longer c.requires.form
    (c.in_default.not-Lam, (c.in_default.not-App, (c.in_default.not-Letd, (c.in_default.not-Pair, (c.in_default.not-Letcc, (c.in_default.not-Throw, (c.in_default.not-Go, (c.in_default.not-Gate, (c.in_default.not-Below, tt)))))))))

pub term_parts-more_parts-requires : goal.term_parts-more_parts-requires
term_parts-more_parts-requires t c = (omega arith, (in_longer c.args.form c.requires.form (c.in_default.not-Num, (c.in_default.not-Val, (c.in_default.not-Boxed, (c.in_default.not-Unbox, (c.in_default.not-Here, (c.in_default.not-Getb, (c.in_default.not-Getd, (c.in_default.not-Getn, (c.in_default.not-Fst, (c.in_default.not-Snd, (c.in_default.not-Gauge, tt))))))))))), c.requires.room))

pub term-returns : goal.term-returns
term-returns t c = λ k vs. term_begins c.args.self.now c.begin.new.self (tables c.args.draft.now) vs c.args.depth k c.in_ok-number.form c.in_ok-number.number c.begin.new.rows.items (c.in_ok-number.ensures.led k) c.in_ok-number.ensures.row.0 c.in_ok-number.ensures.row.1 ∙ c.in_ok-node.ensures.led k (c.in_ok-number.number ∷ vs) ∙ c.in_ok-stop.ensures (close c.in_ok-number.form) k _ (sym c.last.ensures)
    ∙ ap (λ (x : Seen). from c.stop.new.self k x) (term_ends (tables c.term_parts.new.draft) vs c.args.depth c.in_ok-number.number c.in_ok-node.node c.in_ok-number.form c.in_ok-node.ensures.formed)
    ∙ ap (λ (l : List Term). from c.stop.new.self k (seen (with_terms (tables c.term_parts.new.draft) l) (c.in_ok-number.number ∷ vs) c.args.depth)) (sym (c.set.ensures ∙ ap (λ n. set c.term_parts.new.draft.terms.items n c.in_ok-node.node) c.from.ensures))
