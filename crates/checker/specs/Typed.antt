-- What an accepted program carries: the rules give it its type.
use Rattle.std.specs.Prelude.{ℕ, ◌+◌, Bool, true, cond, ◌&&◌, List, length, take, Some, None, Option, nat_le, nat_lt}
use Rattle.instruments.specs.declared.sheet.Station.{Station}
use Rattle.instruments.specs.Sheets.{stations_of}
use Rattle.syntax.specs.declared.program.Ty.{Ty as TypeRow}
use Rattle.syntax.specs.declared.program.Ty.TheVariants as Row
use Rattle.syntax.specs.declared.program.Term.{Term as TermRow}
use Rattle.syntax.specs.Tests.{type_test, each_row, sound_test}
use Rattle.calculus.specs.Types.{Ty}
use Rattle.calculus.specs.Program.{Program}
use Rattle.calculus.specs.Checker.{check, is_typed}
use Rattle.checker.specs.declared.accepted.Entry.{Entry}
use Rattle.checker.specs.TypeTable.{meaning}

-- the parameter of a function type is written
abbrev pub given_test : ℕ → TypeRow → Bool
given_test w Row.Num = true
given_test w Row.Never = true
given_test w (Row.Fn a b) = nat_lt a w
given_test w (Row.Boxed a) = true
given_test w (Row.At a) = true
given_test w (Row.Both a b) = true

-- a written row names written rows behind it, a built row names rows before it
abbrev pub row_test : ℕ → ℕ → TypeRow → Bool
row_test w n r = cond (nat_lt n w) (type_test (n + 1) w r) (type_test 0 n r && given_test w r)

-- a table of types that a checker built
abbrev pub table_test : ℕ → List TypeRow → Bool
table_test w rows = nat_le w (length rows) && each_row (row_test w) 0 rows

-- a table of types that a checker built, with a number of one of them
abbrev pub laid_test : ℕ → List TypeRow → ℕ → Bool
laid_test w rows n = table_test w rows && nat_lt n (length rows)

abbrev pub kept_laid : Option Entry → List TypeRow → Bool
kept_laid (Some e) types = laid_test e.written types e.ty
kept_laid None types = true

-- a place with a program holds tables that are sound: numbers lead to rows that are there, and parts stand behind their wholes
abbrev pub kept_sound : Option Entry → List TypeRow → List TermRow → Bool
kept_sound (Some e) types terms = sound_test (take e.written types) terms (stations_of e.sheet)
kept_sound None types terms = true

-- the program of the written types, the terms and the stations
abbrev pub program_with : ℕ → List TypeRow → List TermRow → List Station → ℕ → Program
program_with w types terms stations start = record { sheet = stations; types = take w types; terms = terms; start = start }

-- the program that an entry and the tables are of, and its type
abbrev pub program_kept : Entry → List TypeRow → List TermRow → Program
program_kept e types terms = program_with e.written types terms (stations_of e.sheet) e.start

abbrev pub type_kept : Entry → List TypeRow → Ty
type_kept e types = meaning e.written types e.ty

-- a place with a program holds one whose type is the one with number ty
abbrev pub accepted_test : Option Entry → List TypeRow → List TermRow → Bool
accepted_test (Some e) types terms = is_typed (type_kept e types) (check (program_kept e types terms))
accepted_test None types terms = true
