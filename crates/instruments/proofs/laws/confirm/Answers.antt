use Rattle.std.proofs.Common.{map, length, sym, ap, ◌∙◌}
use Rattle.instruments.specs.Registers.{Shown, asked}
use Rattle.instruments.proofs.Sets.{set_elsewhere, set_widths, done_ok}
use Rattle.instruments.proofs.laws.confirm.Goals as goal

pub returns-clause-others : goal.returns-clause-others
returns-clause-others g c =
    let rows = g.W.Works.settings c.args.works.now in
    let s = c.args.site in
    let n = c.args.number in
    let o = done_ok (asked rows s n) (sym c.set_gate.ensures.value ∙ c.in_ok-set_gate.was) in
    λ t k far. ap (λ (q : Shown). asked q t k) c.set_gate.ensures.after ∙ set_elsewhere rows s n c.args.value o.0 o.1 t k far

pub returns-clause-sheet : goal.returns-clause-sheet
returns-clause-sheet g c =
    let rows = g.W.Works.settings c.args.works.now in
    let o = done_ok (asked rows c.args.site c.args.number) (sym c.set_gate.ensures.value ∙ c.in_ok-set_gate.was) in
    ap (map length) c.set_gate.ensures.after ∙ set_widths rows c.args.site c.args.number c.args.value o.0 o.1
