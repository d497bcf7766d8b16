use Rattle.std.proofs.Common.{◌≡◌, ℕ, ◌≤◌, ◌-◌, List, [], ◌∷◌, ◌++◌, length, map, get_or, take, drop, codes, refl, ap, sym, arith}
use Rattle.std.proofs.lemmas.List.{take_all}
use Rattle.lines.proofs.Pieces.{then, stops}
use Rattle.syntax.specs.Grammar.{last}
use Rattle.syntax.specs.Place.{tables}
use Rattle.syntax.specs.Parts.{part_text, joined}
use Rattle.syntax.specs.declared.writer.Part.{Part}
use Rattle.syntax.specs.declared.writer.Part.TheVariants.{Number as Num}
use Rattle.syntax.specs.Spelt.{spaced, type_text, type_inner, term_text, term_inner}
use Rattle.syntax.proofs.Spells.{type_more, term_more}
use Rattle.syntax.proofs.table.Program.+put_part_put_parts_put_term_put_term_parts_put_type_put_type_parts.Goals as goal

pub put_type-returns-in_err-put_type_parts : goal.put_type-returns-in_err-put_type_parts
put_type-returns-in_err-put_type_parts t c =
    rw (type_more c.args.left (tables c.args.self.now).types c.args.number c.type_at-node.result c.form-form.result c.word.result.now (last c.form-form.result) c.if-left-eq0.false c.type_at-node.ensures c.form-form.ensures c.word.ensures refl)
    (then c.in_ok-word.ensures.writes.ended (stops (type_inner c.type_at-node.result (type_text (c.args.left - 1) (tables c.args.self.now).types)) (last c.form-form.result ∷ []) c.from_residual-in_err-put_type_parts.ensures.0 c.in_err-put_type_parts.ensures.ended))

pub put_type-returns : goal.put_type-returns
put_type-returns t c =
    rw (type_more c.args.left (tables c.args.self.now).types c.args.number c.type_at-node.result c.form-form.result c.word.result.now c.last.result c.if-left-eq0.false c.type_at-node.ensures c.form-form.ensures c.word.ensures c.last.ensures)
    (then c.in_ok-word.ensures.writes.ended (then c.in_ok-put_type_parts.ensures.ended c.word-3.ensures.writes))

pub put_term-returns-in_err-word : goal.put_term-returns-in_err-word
put_term-returns-in_err-word t c =
    rw (term_more c.args.left (tables c.args.self.now).types (tables c.args.self.now).terms c.args.number c.term_at-node.result c.form.result c.word.result.now c.if-left-eq0.false c.term_at-node.ensures c.form.ensures c.word.ensures)
    (stops c.word.result.now (term_inner c.term_at-node.result (type_text (c.args.left - 1) (tables c.args.self.now).types) (term_text (c.args.left - 1) (tables c.args.self.now).types (tables c.args.self.now).terms) ++ codes ")") c.from_residual.ensures.0 c.in_err-word.ensures.writes.ended)

pub put_term-returns-in_err-put_term_parts : goal.put_term-returns-in_err-put_term_parts
put_term-returns-in_err-put_term_parts t c =
    rw (term_more c.args.left (tables c.args.self.now).types (tables c.args.self.now).terms c.args.number c.term_at-node.result c.form.result c.word.result.now c.if-left-eq0.false c.term_at-node.ensures c.form.ensures c.word.ensures)
    (then c.in_ok-word.ensures.writes.ended (stops (term_inner c.term_at-node.result (type_text (c.args.left - 1) (tables c.args.self.now).types) (term_text (c.args.left - 1) (tables c.args.self.now).types (tables c.args.self.now).terms)) (codes ")") c.from_residual-in_err-put_term_parts.ensures.0 c.in_err-put_term_parts.ensures.ended))

pub put_term-returns : goal.put_term-returns
put_term-returns t c =
    rw (term_more c.args.left (tables c.args.self.now).types (tables c.args.self.now).terms c.args.number c.term_at-node.result c.form.result c.word.result.now c.if-left-eq0.false c.term_at-node.ensures c.form.ensures c.word.ensures)
    (then c.in_ok-word.ensures.writes.ended (then c.in_ok-put_term_parts.ensures.ended c.word-3.ensures.writes))

-- more parts than one
joined_more : (f : Part → List ℕ) (ps : List Part) (p : Part) → 2 ≤ length ps → joined (map f ps) ≡ spaced (f (get_or ps 0 p)) (joined (map f (take (length ps - 1) (drop 1 ps))))
joined_more f [] p h = absurd (omega (arith, h))
joined_more f (a ∷ []) p h = absurd (omega (arith, h))
joined_more f (a ∷ b ∷ cs) p h =
    ap (λ (xs : List Part). spaced (f a) (joined (map f xs))) (sym (take_all (length (a ∷ b ∷ cs) - 1) (b ∷ cs) (omega arith)))

pub put_parts-returns-in_ok-word-in-len1-up : goal.put_parts-returns-in_ok-word-in-len1-up
put_parts-returns-in_ok-word-in-len1-up t c =
    let h : 2 ≤ length c.args.parts.now = omega arith in
    rw (joined_more (part_text c.args.left (tables c.args.self.now)) c.args.parts.now (Num 0) h)
    (then c.in_ok-put_part-in-len1-up.ensures.ended (then c.in_ok-word-in-len1-up.ensures.writes.ended c.put_parts.ensures))
