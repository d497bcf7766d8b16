-- The text of a program's tables.
use Rattle.std.specs.Prelude.{◌≡◌, ℕ, zero, suc, List, [], ◌∷◌, ◌++◌, Err, codes, decimal, Result, slice_index_or}
use Rattle.lines.specs.declared.refusal.Refusal.{Refusal}
use Rattle.lines.specs.declared.refusal.Refusal.TheVariants.{Nothing}
use Rattle.lines.specs.Writing.{written, written_after}
use Rattle.instruments.specs.declared.sheet.Station.{Station}
use Rattle.syntax.specs.Grammar.{spelling, last}
use Rattle.syntax.specs.Reading.{Seen, read}
use Rattle.syntax.specs.Reading.Outcome.{done}
use Rattle.syntax.specs.Place.{Tables, Place, tables_of}
use Rattle.syntax.specs.Place.Place.{empty, full}
use Rattle.syntax.specs.Views.{type_form, term_form}
use Rattle.syntax.specs.declared.program.Ty.{Ty}
use Rattle.syntax.specs.declared.program.Ty.TheVariants.{Num as TyAsNum, Never, Fn, Boxed as TyAsBoxed, At, Both}
use Rattle.syntax.specs.declared.program.World.{World}
use Rattle.syntax.specs.declared.program.World.TheVariants.{Site, Bound}
use Rattle.syntax.specs.declared.program.Term.{Term}
use Rattle.syntax.specs.declared.program.Term.TheVariants.{Num, Value, Lam, App, Boxed, Unbox, Here, Letd, Get, Pair, Fst, Snd, Letcc, Throw, Go, Gauge, Gate, Below}

-- two texts with a space between
abbrev pub spaced : List ℕ → List ℕ → List ℕ
spaced a b = a ++ (codes " " ++ b)

-- the type n; one past the table is a number's
abbrev pub type_at : List Ty → ℕ → Ty
type_at ts n = slice_index_or ts n TyAsNum

-- the term n; one past the table is the number 0
abbrev pub nth_term : List Term → ℕ → Term
nth_term ms n = slice_index_or ms n (Num 0)

-- a type's parts, where y writes a type by its number
abbrev pub type_inner : Ty → (ℕ → List ℕ) → List ℕ
type_inner TyAsNum y = []
type_inner Never y = []
type_inner (Fn a b) y = spaced (y a) (y b)
type_inner (TyAsBoxed a) y = y a
type_inner (At a) y = y a
type_inner (Both a b) y = spaced (y a) (y b)

-- the text of the type n, to a depth
abbrev pub type_text : ℕ → List Ty → ℕ → List ℕ
type_text zero ts n = []
type_text (suc k) ts n = spelling (type_form (type_at ts n)) ++ (type_inner (type_at ts n) (type_text k ts) ++ last (type_form (type_at ts n)) ∷ [])

-- the text of a world
abbrev pub world_text : World → List ℕ
world_text (Site n) = codes "(site " ++ (decimal n ++ codes ")")
world_text (Bound n) = codes "(w " ++ (decimal n ++ codes ")")

-- a term's parts, where y writes a type by its number, and m a term
abbrev pub term_inner : Term → (ℕ → List ℕ) → (ℕ → List ℕ) → List ℕ
term_inner (Num n) y m = decimal n
term_inner (Value n) y m = decimal n
term_inner (Lam t b) y m = spaced (y t) (m b)
term_inner (App f a) y m = spaced (m f) (m a)
term_inner (Boxed a) y m = m a
term_inner (Unbox a) y m = m a
term_inner (Here a) y m = m a
term_inner (Letd a b) y m = spaced (m a) (m b)
term_inner (Get o w a) y m = spaced (world_text w) (m a)
term_inner (Pair a b) y m = spaced (m a) (m b)
term_inner (Fst a) y m = m a
term_inner (Snd a) y m = m a
term_inner (Letcc t b) y m = spaced (y t) (m b)
term_inner (Throw t c a) y m = spaced (y t) (spaced (decimal c) (m a))
term_inner (Go t w a) y m = spaced (y t) (spaced (world_text w) (m a))
term_inner (Gauge n) y m = decimal n
term_inner (Gate n a) y m = spaced (decimal n) (m a)
term_inner (Below t a b l o) y m = spaced (y t) (spaced (spaced (m a) (m b)) (spaced (m l) (m o)))

-- the text of the term n, to a depth
abbrev pub term_text : ℕ → List Ty → List Term → ℕ → List ℕ
term_text zero ts ms n = []
term_text (suc k) ts ms n = spelling (term_form (nth_term ms n)) ++ (term_inner (nth_term ms n) (type_text k ts) (term_text k ts ms) ++ codes ")")

-- the line of a station
abbrev pub station_line : Station → List ℕ
station_line h = codes "(station " ++ (decimal h.gauges ++ (codes " " ++ (decimal h.gates ++ codes ")\n")))

-- the lines of the stations in order
abbrev pub station_lines : List Station → List ℕ
station_lines [] = []
station_lines (h ∷ hs) = station_line h ++ station_lines hs

-- the text of a program: brackets stand at most 64 deep, the run line's own among them
abbrev pub text_of : Tables → List ℕ
text_of t = station_lines t.stations ++ (codes "(run " ++ (decimal t.start ++ (codes " " ++ (term_text 64 t.types t.terms 0 ++ codes ")\n"))))

-- what writing answers: that nothing was read, or as for every text
abbrev pub written_back : Place → List ℕ → Result ℕ Refusal
written_back empty out = Err Nothing
written_back (full t) out = written (text_of t) out

-- the buffer after it
abbrev pub written_back_after : Place → List ℕ → List ℕ
written_back_after empty out = out
written_back_after (full t) out = written_after (text_of t) out

-- writing what was read gives the bytes again
abbrev pub WrittenRight : Type 0
WrittenRight = (bs : List ℕ) (s : Seen) → read bs ≡ done s → text_of (tables_of s) ≡ bs
