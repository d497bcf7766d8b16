-- What checking answers, and what the place for programs holds afterwards.
use Rattle.std.specs.Prelude.{List, Some, None, Ok, Err, Option, Result}
use Rattle.lines.specs.declared.refusal.Refusal.{Refusal}
use Rattle.lines.specs.declared.refusal.Refusal.TheVariants.{Check, Nothing}
use Rattle.syntax.specs.Place.{Tables, Place as TextPlace}
use Rattle.syntax.specs.Place.Place.{empty as no_text, full as a_text}
use Rattle.calculus.specs.Types.{Ty}
use Rattle.calculus.specs.Program.{Program}
use Rattle.calculus.specs.Checker.{Checked, typed, refused, check}
use Rattle.checker.specs.declared.accepted.Accepted.{Accepted}
use Rattle.checker.specs.declared.accepted.Entry.{Entry}
use Rattle.syntax.specs.declared.program.Ty.{Ty as TypeRow}
use Rattle.syntax.specs.declared.program.Term.{Term as TermRow}
use Rattle.checker.specs.Typed.{program_kept, type_kept}

-- a place is empty, or full with a program and its type
pub data Place : Type 0 where
  empty : Place
  full : Program → Ty → Place

abbrev pub kept : Option Entry → List TypeRow → List TermRow → Place
kept (Some e) types terms = full (program_kept e types terms) (type_kept e types)
kept None types terms = empty

abbrev pub place : Accepted → Place
place a = kept a.entry a.types.items a.terms.items

-- the program of a text's tables
abbrev pub program_of : Tables → Program
program_of t = record { sheet = t.stations; types = t.types; terms = t.terms; start = t.start }

abbrev pub answer : Checked → Result Unit Refusal
answer (typed A) = Ok tt
answer (refused e) = Err (Check e)

-- what checking answers: 25 where nothing was read, else the checker's verdict
abbrev pub answered : TextPlace → Result Unit Refusal
answered no_text = Err Nothing
answered (a_text t) = answer (check (program_of t))

abbrev pub filled : Place → Program → Checked → Place
filled q P (typed A) = full P A
filled q P (refused e) = q

-- the place after checking: full with the program and its type, or as it was where it is refused
abbrev pub checked_into : Place → TextPlace → Place
checked_into q no_text = q
checked_into q (a_text t) = filled q (program_of t) (check (program_of t))
