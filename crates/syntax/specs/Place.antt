-- What a place for a text holds.
use Rattle.std.specs.Prelude.{ℕ, cond, List, [], Ok, Err, Result, ◌==◌}
use Rattle.instruments.specs.declared.sheet.Station.{Station}
use Rattle.instruments.specs.Sheets.{stations_of}
use Rattle.syntax.specs.declared.program.Ty.{Ty}
use Rattle.syntax.specs.declared.program.Term.{Term}
use Rattle.lines.specs.declared.refusal.Refusal.{Refusal}
use Rattle.lines.specs.declared.refusal.Refusal.TheVariants.{Text as Text·fault}
use Rattle.lines.specs.declared.refusal.TextFault.{TextFault}
use Rattle.lines.specs.declared.refusal.TextFault.TheVariants.{TooLong, Grammar, TooDeep, TooMany, Sheet}
use Rattle.syntax.specs.Reading.{Seen, Outcome, read}
use Rattle.syntax.specs.Reading.Outcome.{done, refused}
use Rattle.syntax.specs.declared.table.Program.{Program}
use Rattle.syntax.specs.declared.text.Text.{Text}

-- a program as lists: its types and terms by number, its stations in order, and the site where it starts
pub record Tables : Type 0 where
  pub types : List Ty
  pub terms : List Term
  pub stations : List Station
  pub start : ℕ

-- what the tables of a program hold
abbrev pub tables : Program → Tables
tables p = record { types = p.types.items; terms = p.terms.items; stations = stations_of p.sheet; start = p.start }

-- tables with nothing in them
abbrev pub blank : Tables
blank = record { types = []; terms = []; stations = []; start = 0 }

-- the tables with other stations
abbrev pub with_stations : Tables → List Station → Tables
with_stations t l = record { types = t.types; terms = t.terms; stations = l; start = t.start }

-- a place is empty, or full with a program
pub data Place : Type 0 where
  empty : Place
  full : Tables → Place

-- a place is full once a text was read
abbrev pub place : Text → Place
place t = cond t.full (full (tables t.program)) empty

-- the program that was read
abbrev pub tables_of : Seen → Tables
tables_of s = record { types = s.tys; terms = s.tms; stations = s.stations; start = s.start }

-- the fault with a number at a place
abbrev pub fault : ℕ → ℕ → TextFault
fault n p = cond (n == 10) TooLong (cond (n == 11) (Grammar p) (cond (n == 12) (TooDeep p) (cond (n == 13) (TooMany p) (Sheet p))))

-- an outcome as the call answers it
abbrev pub answer : Outcome → Result Unit Refusal
answer (done s) = Ok tt
answer (refused n p) = Err (Text·fault (fault n p))

-- what reading answers: nothing more where the text is a program's, else the refusal
abbrev pub answered : List ℕ → Result Unit Refusal
answered bs = answer (read bs)

-- a place after an outcome: a refusal leaves it
abbrev pub filled : Place → Outcome → Place
filled q (done s) = full (tables_of s)
filled q (refused n p) = q

-- the place after reading: full with the program of the text, or as it was where the text is refused
abbrev pub reads_into : Place → List ℕ → Place
reads_into q bs = filled q (read bs)
