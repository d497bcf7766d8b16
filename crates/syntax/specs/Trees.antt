-- Programs as trees, how one is written, and its tables.
use Rattle.std.specs.Prelude.{◌≡◌, ℕ, ◌+◌, ◌<◌, ◌≤◌, max, cond, List, [], ◌∷◌, ◌++◌, length, decimal, ◌==◌}
use Rattle.syntax.specs.Grammar.{Stop, Part, Made, row, parts, spelling, last, byte, sort_of}
use Rattle.syntax.specs.Grammar.Stop.{space, close}
use Rattle.syntax.specs.Grammar.Part.{num, sub}
use Rattle.syntax.specs.Grammar.Kind.{term}
use Rattle.syntax.specs.Grammar.Made.{a_type, a_world, a_term, a_station, a_start}
use Rattle.syntax.specs.Reading.{Seen}
use Rattle.syntax.specs.declared.grammar.Form.{Form}
use Rattle.syntax.specs.declared.grammar.Form.TheVariants.{Station, Run}
use Rattle.syntax.specs.declared.grammar.Sort.{Sort}
use Rattle.syntax.specs.declared.grammar.Sort.TheVariants.{Types, Worlds, Terms, First, Further}
use Rattle.syntax.specs.declared.program.Ty.{Ty}
use Rattle.syntax.specs.declared.program.Term.{Term}
use Rattle.instruments.specs.declared.sheet.Station.{Station as Counts}

-- The parts of a form: numbers, and forms with their own parts.
pub data Parts : Type 0 where
  none : Parts
  number : ℕ → Parts → Parts
  form : Form → Parts → Parts → Parts

-- A program: its stations with their gauges and gates, the station where it starts, and its term.
pub record Prog : Type 0 where
  pub stations : List Counts
  pub start : ℕ
  pub main : Parts

-- The parts are those that the grammar has at this place; a number is below 65,536.
abbrev pub Fit : Parts → List Part → Type 0
Fit none [] = Unit {0}
Fit none (p ∷ ps) = ⊥
Fit (number n r) [] = ⊥
Fit (number n r) (num ∷ ps) = (n < 65536) × Fit r ps
Fit (number n r) (sub k ∷ ps) = ⊥
Fit (form f t r) [] = ⊥
Fit (form f t r) (num ∷ ps) = ⊥
Fit (form f t r) (sub k ∷ ps) = ((row f).sort ≡ sort_of k) × Fit t (parts f) × Fit r ps

-- A space ends a part that another follows, and the form's last byte ends the last.
abbrev pub stop_of : Form → Parts → Stop
stop_of f none = close f
stop_of f (number n r) = space
stop_of f (form g t r) = space

-- A form with no parts has only its last byte after its word.
abbrev pub inside : Parts → List ℕ → List ℕ → List ℕ
inside none x y = x
inside (number n r) x y = y
inside (form g t r) x y = y

-- The parts of f, each with the byte that ends it, before the bytes bs.
abbrev pub written : Form → Parts → List ℕ → List ℕ
written f none bs = bs
written f (number n r) bs = decimal n ++ byte (stop_of f r) ∷ written f r bs
written f (form g t r) bs =
    spelling g ++ inside t (last g ∷ byte (stop_of f r) ∷ written f r bs) (written g t (byte (stop_of f r) ∷ written f r bs))

-- A station's line has its gauges and its gates.
abbrev pub station_parts : Counts → Parts
station_parts h = number h.gauges (number h.gates none)

-- The last line has the station where the program starts, and the term.
abbrev pub run_parts : Prog → Parts
run_parts p = number p.start p.main

-- A line for each station, before the bytes bs; byte 10 ends a line.
abbrev pub stations_text : List Counts → List ℕ → List ℕ
stations_text [] bs = bs
stations_text (h ∷ hs) bs = spelling Station ++ written Station (station_parts h) (10 ∷ stations_text hs bs)

-- The text of a program.
abbrev pub print : Prog → List ℕ
print p = stations_text p.stations (spelling Run ++ written Run (run_parts p) (10 ∷ []))

-- A form that ends with a bracket is one bracket deeper than its parts.
abbrev pub nested : Form → ℕ → ℕ
nested f d = cond (last f == 41) (d + 1) d

-- How deep the brackets of parts are.
abbrev pub deep : Parts → ℕ
deep none = 0
deep (number n r) = deep r
deep (form f t r) = max (nested f (deep t)) (deep r)

-- A form of the sort is a type.
abbrev pub one_type : Sort → ℕ
one_type Types = 1
one_type Worlds = 0
one_type Terms = 0
one_type First = 0
one_type Further = 0

-- A form of the sort is a term.
abbrev pub one_term : Sort → ℕ
one_term Types = 0
one_term Worlds = 0
one_term Terms = 1
one_term First = 0
one_term Further = 0

-- How many types there are.
abbrev pub types : Parts → ℕ
types none = 0
types (number n r) = types r
types (form f t r) = one_type (row f).sort + types t + types r

-- How many terms there are.
abbrev pub terms : Parts → ℕ
terms none = 0
terms (number n r) = terms r
terms (form f t r) = one_term (row f).sort + terms t + terms r

-- P holds of each station.
abbrev pub Each : (Counts → Type 0) → List Counts → Type 0
Each P [] = Unit {0}
Each P (h ∷ hs) = P h × Each P hs

-- A program of the language: a term, at least one station, and numbers below 65,536.
pub record Right (p : Prog) : Type 0 where
  pub main : Fit p.main (sub term ∷ [])
  pub start : p.start < 65536
  pub some : 0 < length p.stations
  pub stations : Each (λ h. Fit (station_parts h) (parts Station)) p.stations

-- The limits: 65,536 bytes, 64 brackets deep with the line's own, 1,024 terms, 512 types, 16 stations, 32 gauges and 32 gates a station.
pub record Limits (p : Prog) : Type 0 where
  pub bytes : length (print p) ≤ 65536
  pub deep : 1 + deep p.main ≤ 64
  pub terms : terms p.main ≤ 1024
  pub types : types p.main ≤ 512
  pub stations : length p.stations ≤ 16
  pub counts : Each (λ h. (h.gauges ≤ 32) × (h.gates ≤ 32)) p.stations

-- The value of a type or a term is its number; a world has two values, its kind and its number.
abbrev pub own : Made → ℕ → ℕ → List ℕ → List ℕ
own (a_type t) a b vs = a ∷ []
own (a_world c) a b vs = c ∷ vs
own (a_term t) a b vs = b ∷ []
own (a_station g h) a b vs = []
own (a_start n) a b vs = []

-- The values of parts, the last first, where a is the next type's number and b the next term's.
abbrev pub values : Parts → ℕ → ℕ → List ℕ
values none a b = []
values (number n r) a b = values r a b ++ n ∷ []
values (form f t r) a b =
    values r (a + one_type (row f).sort + types t) (b + one_term (row f).sort + terms t)
    ++ own ((row f).make (values t (a + one_type (row f).sort) (b + one_term (row f).sort))) a b (values t (a + one_type (row f).sort) (b + one_term (row f).sort))

-- The row that a form adds to the table of types, if any.
abbrev pub ty_row : Made → List Ty
ty_row (a_type t) = t ∷ []
ty_row (a_world c) = []
ty_row (a_term t) = []
ty_row (a_station g h) = []
ty_row (a_start n) = []

-- The row that a form adds to the table of terms, if any.
abbrev pub tm_row : Made → List Term
tm_row (a_type t) = []
tm_row (a_world c) = []
tm_row (a_term t) = t ∷ []
tm_row (a_station g h) = []
tm_row (a_start n) = []

-- The rows of the table of types, in the order of their first bytes.
abbrev pub ty_rows : Parts → ℕ → ℕ → List Ty
ty_rows none a b = []
ty_rows (number n r) a b = ty_rows r a b
ty_rows (form f t r) a b =
    ty_row ((row f).make (values t (a + one_type (row f).sort) (b + one_term (row f).sort)))
    ++ (ty_rows t (a + one_type (row f).sort) (b + one_term (row f).sort)
    ++ ty_rows r (a + one_type (row f).sort + types t) (b + one_term (row f).sort + terms t))

-- The rows of the table of terms, in the order of their first bytes.
abbrev pub tm_rows : Parts → ℕ → ℕ → List Term
tm_rows none a b = []
tm_rows (number n r) a b = tm_rows r a b
tm_rows (form f t r) a b =
    tm_row ((row f).make (values t (a + one_type (row f).sort) (b + one_term (row f).sort)))
    ++ (tm_rows t (a + one_type (row f).sort) (b + one_term (row f).sort)
    ++ tm_rows r (a + one_type (row f).sort + types t) (b + one_term (row f).sort + terms t))

-- The tables of a program.
pub record Tables : Type 0 where
  pub tys : List Ty
  pub tms : List Term
  pub stations : List Counts
  pub start : ℕ

-- The tables of the program p.
abbrev pub table : Prog → Tables
table p = record { tys = ty_rows p.main 0 0; tms = tm_rows p.main 0 0; stations = p.stations; start = p.start }

-- The tables in what was read.
abbrev pub tables : Seen → Tables
tables s = record { tys = s.tys; tms = s.tms; stations = s.stations; start = s.start }
