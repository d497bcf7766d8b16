-- What a place for an accepted program holds.
use Rattle.std.specs.Prelude.{◌≡◌, ℕ, true, List}
use Rattle.syntax.specs.Tests.{sound_test}
use Rattle.syntax.specs.declared.program.Ty.{Ty as TypeRow}
use Rattle.syntax.specs.declared.program.Term.{Term as TermRow}
use Rattle.calculus.specs.Checker.{typed, check}
use Rattle.checker.specs.Accepting.{Place}
use Rattle.checker.specs.Accepting.Place.{empty, full}

-- These are the tables of the program in the place, and the site where it starts.
abbrev pub Views : Place → List TypeRow → List TermRow → ℕ → Type 0
Views empty types terms start = ⊥
Views (full P A) types terms start = (types ≡ P.types) × (terms ≡ P.terms) × (start ≡ P.start)

-- The program in the place has sound tables, and the checker names its type.
abbrev pub Carries : Place → Type 0
Carries empty = Unit {0}
Carries (full P A) = (sound_test P.types P.terms P.sheet ≡ true) × (check P ≡ typed A)
