use Rattle.std.proofs.Common.{◌≡◌, ◌-◌, [], ◌∷◌, length}
use Rattle.syntax.specs.Grammar.Want.{item}
use Rattle.syntax.specs.Place.{tables}
use Rattle.syntax.specs.Views.{at}
use Rattle.syntax.specs.declared.grammar.Sort.TheVariants.{Further}
use Rattle.syntax.proofs.reader.Reader.text.Given as goal

abbrev pub invariant-loop-self : goal.invariant-loop-self
invariant-loop-self l = at l.initial.self l.initial.draft (item Further ∷ []) [] 0 ≡ at l.self l.draft (item Further ∷ []) [] 0

abbrev pub decreases-loop-self : goal.decreases-loop-self
decreases-loop-self l = 16 - length (tables l.draft).stations
