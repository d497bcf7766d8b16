use Rattle.std.proofs.Common.{◌≡◌, ◌≤◌, length, take}
use Rattle.syntax.specs.Grammar.{spelled_out}
use Rattle.syntax.specs.Views.{Misses, farthest}
use Rattle.syntax.proofs.reader.find.Given as goal

abbrev pub invariant-loop-form : goal.invariant-loop-form
invariant-loop-form l =
    Misses (spelled_out (take l.form-index l.forms)) l.text
    × (l.far ≡ farthest (spelled_out (take l.form-index l.forms)) l.text)
    × (l.far ≤ length l.text)
