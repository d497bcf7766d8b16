use Rattle.std.proofs.Common.{◌≡◌, [], ◌∷◌, refl, ap, ◌∙◌}
use Rattle.syntax.specs.Grammar.{words, wants}
use Rattle.syntax.specs.Reading.{opened}
use Rattle.syntax.specs.Views.{from}
use Rattle.syntax.specs.declared.grammar.Form.{Form}
use Rattle.syntax.specs.declared.grammar.Form.TheVariants.{Station}
use Rattle.syntax.specs.declared.grammar.Sort.TheVariants.{First}
use Rattle.syntax.proofs.Picks.{clear_all, in_all}
use Rattle.syntax.proofs.reader.Reader.first_line.Goals as goal

pub returns : goal.returns
returns c = λ k s d. c.in_ok-first.ensures.led k s d ∙ c.in_ok-word.ensures.led k s (clear_all First s (λ b. refl) (words First))
    ∙ ap (λ (f : Form). from c.word.new.self (wants f k) (opened f s)) (in_all (λ (f : Form). f ≡ Station) _ _ (Station ∷ []) c.in_ok-word.ensures.picked.0 (refl, tt))
