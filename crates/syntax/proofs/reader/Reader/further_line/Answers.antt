use Rattle.std.proofs.Common.{◌≡◌, refl}
use Rattle.std.proofs.lemmas.Result.{IfOk-weaker}
use Rattle.syntax.specs.Grammar.{forms}
use Rattle.syntax.specs.declared.grammar.Form.{Form}
use Rattle.syntax.specs.declared.grammar.Form.TheVariants.{Station, Run}
use Rattle.syntax.specs.declared.grammar.Sort.TheVariants.{Further}
use Rattle.syntax.proofs.Picks.{in_all}
use Rattle.syntax.proofs.reader.Reader.further_line.Goals as goal

pub returns-then-len-lt-STATIONS-clause-line : goal.returns-then-len-lt-STATIONS-clause-line
returns-then-len-lt-STATIONS-clause-line c = IfOk-weaker c.word.result _ _
    (λ f h. in_all (λ (g : Form). (g ≡ Station → ⊥) → g ≡ Run) _ f (forms Further) h.0 ((λ n. absurd (n refl)), ((λ n. refl), tt)))
    c.word.ensures.picked
