use Rattle.std.proofs.Common.{sym, refl, ◌∙◌}
use Rattle.syntax.specs.Grammar.{words, forms}
use Rattle.syntax.specs.Grammar.Stop.{close}
use Rattle.syntax.specs.Reading.{opened}
use Rattle.syntax.specs.declared.grammar.Sort.TheVariants.{Worlds}
use Rattle.syntax.proofs.Exits.{exit}
use Rattle.syntax.proofs.Picks.{clear_all, world_names, not_none}
use Rattle.syntax.proofs.Theory.{no_digit}
use Rattle.syntax.proofs.reader.Reader.world.Goals as goal

pub returns-in_err-count : goal.returns-in_err-count
returns-in_err-count c = λ k s d. exit _ _ c.from_residual-in_err-count.ensures.1 _ _ (
    world_names _ c.word.new.self _ c.in_ok-form.form k (opened c.in_ok-form.form s) c.in_ok-form.ensures.picked.0 (c.in_ok-first.ensures.led k s d ∙ c.in_ok-form.ensures.led k s (clear_all Worlds s (λ b. refl) (words Worlds)))
    ∙ c.in_err-count.ensures.led (close c.in_ok-form.form) k _ (no_digit (close c.in_ok-form.form)))

pub returns-in_err-stop : goal.returns-in_err-stop
returns-in_err-stop c = λ k s d. exit _ _ c.from_residual-in_err-stop.ensures.1 _ _ (
    world_names _ c.word.new.self _ c.in_ok-form.form k (opened c.in_ok-form.form s) c.in_ok-form.ensures.picked.0 (c.in_ok-first.ensures.led k s d ∙ c.in_ok-form.ensures.led k s (clear_all Worlds s (λ b. refl) (words Worlds)))
    ∙ c.in_ok-count.ensures.led (close c.in_ok-form.form) k _ (no_digit (close c.in_ok-form.form))
    ∙ c.in_err-stop.ensures (close c.in_ok-form.form) k _ (sym c.last.ensures))

pub unreachable-requires : goal.unreachable-requires
unreachable-requires c = not_none _ c.in_ok-form.form (forms Worlds) c.in_ok-form.ensures.picked.0 (c.in_default.not-Site, (c.in_default.not-Bound, tt))
