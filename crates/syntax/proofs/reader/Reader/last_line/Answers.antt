use Rattle.std.proofs.Common.{◌≡◌, ℕ, Bool, true, false, eqb, List, [], ◌∷◌, length, drop, sym, refl, ap, ◌∙◌, subst}
use Rattle.std.specs.Prelude.{slice_range}
use Rattle.std.specs.List.{starts_with}
use Rattle.std.proofs.lemmas.Bool.{both_ways}
use Rattle.std.proofs.lemmas.Bool.Decides.{Decides-eqb}
use Rattle.std.proofs.lemmas.Slice.Eq.{starts_is}
use Rattle.std.proofs.lemmas.List.{take_rest}
use Rattle.std.proofs.lemmas.Result.{IfOk-weaker}
use Rattle.syntax.specs.Grammar.{wants}
use Rattle.syntax.specs.Reading.{Outcome, opened}
use Rattle.syntax.specs.Views.{Led, from}
use Rattle.syntax.specs.declared.grammar.Form.{Form}
use Rattle.syntax.specs.declared.grammar.Form.TheVariants.{Run}
use Rattle.syntax.specs.declared.grammar.Sort.TheVariants.{Further}
use Rattle.syntax.proofs.Steps.{go_none}
use Rattle.syntax.proofs.Exits.{exit, told_grammar}
use Rattle.syntax.proofs.Picks.{in_all}
use Rattle.syntax.proofs.Rolls.{line_many, line_run, run_clear}
use Rattle.syntax.proofs.reader.Reader.last_line.Goals as goal

-- what the test for "(s" shows of the bytes from a place on
module _ (l : List ℕ) (p : ℕ) {r : Bool} (e : r ≡ starts_with eqb (slice_range l p (length l)) (40 ∷ 115 ∷ [])) where
  found : (r ≡ true → drop p l ≡ 40 ∷ 115 ∷ drop 2 (drop p l)) × ((rest : List ℕ) → drop p l ≡ 40 ∷ 115 ∷ rest → r ≡ true)
  found = starts_is Decides-eqb (drop p l) (40 ∷ 115 ∷ []) r (e ∙ ap (λ m. starts_with eqb m (40 ∷ 115 ∷ [])) (take_rest l p))

  begins : r ≡ true → drop p l ≡ 40 ∷ 115 ∷ drop 2 (drop p l)
  begins = found.0

  others : r ≡ false → (rest : List ℕ) → drop p l ≡ 40 ∷ 115 ∷ rest → ⊥
  others n rest q = both_ways r n (found.1 rest q)

pub returns-in_err-peek-clause-led : goal.returns-in_err-peek-clause-led
returns-in_err-peek-clause-led c = λ k s h. exit _ _ c.from_residual.ensures.1 _ _ (told_grammar _ _ _ c.in_err-peek.ensures.1 (go_none _ _ s _ c.in_err-peek.ensures.0))

pub returns-then-starts_with-clause-led : goal.returns-then-starts_with-clause-led
returns-then-starts_with-clause-led c = λ k s h. line_many k s _ _ h (begins c.args.self.now.text.now c.args.self.now.place c.starts_with.ensures.value c.if-starts_with.true)

pub returns-clause-led : goal.returns-clause-led
returns-clause-led c = λ k s h. subst (λ (o : Outcome). Led c.pick.result o (λ f. from c.pick.new.self (wants f k) (opened f s)))
    (sym (line_run k s _ _ (others c.args.self.now.text.now c.args.self.now.place c.starts_with.ensures.value c.if-starts_with.false)))
    (c.pick.ensures.led Further k s (tt, tt) (run_clear s))

pub returns-clause-run : goal.returns-clause-run
returns-clause-run c = IfOk-weaker c.pick.result _ _ (λ f h. in_all (λ (g : Form). g ≡ Run) _ f (Run ∷ []) h.0 (refl, tt)) c.pick.ensures.picked
