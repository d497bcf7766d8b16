-- How what the reader holds stands for what the definition of reading has.
use Rattle.std.specs.Prelude.{◌≡◌, ℕ, ◌+◌, ◌<◌, ◌≤◌, max, Bool, false, cond, ◌||◌, List, [], ◌∷◌, ◌++◌, length, drop, Ok, Err, Result, ◌==◌}
use Rattle.lines.specs.declared.refusal.TextFault.{TextFault}
use Rattle.lines.specs.declared.refusal.TextFault.TheVariants.{TooLong, Grammar, TooDeep, TooMany, Sheet}
use Rattle.syntax.specs.Grammar.{Want, spelling, spelled_out}
use Rattle.syntax.specs.Reading.{Seen, Outcome, go, many, opened}
use Rattle.syntax.specs.Reading.Outcome.{refused}
use Rattle.syntax.specs.Texts.{In}
use Rattle.syntax.specs.declared.grammar.Form.{Form}
use Rattle.syntax.specs.declared.grammar.Sort.{Sort}
use Rattle.syntax.specs.declared.grammar.Sort.TheVariants.{Types, Worlds, Terms, First, Further}
use Rattle.syntax.specs.declared.program.World.{World}
use Rattle.syntax.specs.declared.program.World.TheVariants.{Site, Bound}
use Rattle.syntax.specs.declared.program.Ty.{Ty}
use Rattle.syntax.specs.declared.program.Ty.TheVariants.{Num, Never, Fn, Boxed, At, Both}
use Rattle.syntax.specs.declared.grammar.Form.TheVariants.{TNum, TNone, TFn, TBox, TAt, TBoth}
use Rattle.syntax.specs.declared.grammar.Form.TheVariants.{Val, Getb, Getd, Getn, Num as FormAsNum, Lam as FormAsLam, App as FormAsApp, Boxed as FormAsBoxed, Unbox as FormAsUnbox, Here as FormAsHere, Letd as FormAsLetd, Pair as FormAsPair, Fst as FormAsFst, Snd as FormAsSnd, Letcc as FormAsLetcc, Throw as FormAsThrow, Go as FormAsGo, Gauge as FormAsGauge, Gate as FormAsGate, Below as FormAsBelow}
use Rattle.syntax.specs.declared.program.Mobile.{Mobile}
use Rattle.syntax.specs.declared.program.Mobile.TheVariants.{Code, Address, Number}
use Rattle.syntax.specs.declared.program.Term.{Term}
use Rattle.syntax.specs.declared.program.Term.TheVariants.{Value, Lam, App, Unbox, Here, Letd, Get, Pair, Fst, Snd, Letcc, Throw, Go, Gauge, Gate, Below, Num as TermAsNum, Boxed as TermAsBoxed}
use Rattle.syntax.specs.declared.table.Program.{Program}
use Rattle.syntax.specs.Place.{Tables, tables}
use Rattle.syntax.specs.declared.reader.Reader.{Reader}

-- the bytes that are still to be read
abbrev pub rest : Reader → List ℕ
rest c = drop c.place c.text.now

-- how reading goes on from the reader's place
abbrev pub from : Reader → List Want → Seen → Outcome
from c ws s = go (rest c) ws s c.place

-- the number and the place of a fault
abbrev pub told : TextFault → Outcome
told TooLong = refused 10 65536
told (Grammar p) = refused 11 p
told (TooDeep p) = refused 12 p
told (TooMany p) = refused 13 p
told (Sheet p) = refused 14 p

-- the outcome o goes on as f says, or is the fault
abbrev pub Led : {X : Type 0} → Result X TextFault → Outcome → (X → Outcome) → Type 0
Led (Ok x) o f = o ≡ f x
Led (Err e) o f = o ≡ told e

-- the byte at the place, or a text that ends there
abbrev pub Peeked : Reader → Result ℕ TextFault → Type 0
Peeked r (Ok c) = (rest r ≡ c ∷ drop (r.place + 1) r.text.now) × (r.place < length r.text.now)
Peeked r (Err e) = (rest r ≡ []) × (e ≡ Grammar r.place)

-- how many bytes of a word a text begins with
abbrev pub agreed : List ℕ → List ℕ → ℕ
agreed [] s = 0
agreed (x ∷ w) [] = 0
agreed (x ∷ w) (y ∷ s) = cond (y == x) (agreed w s + 1) 0

-- the text begins with none of the words
abbrev pub Misses : List (List ℕ × Form) → List ℕ → Type 0
Misses [] bs = Unit {0}
Misses ((w, f) ∷ ks) bs = (agreed w bs < length w) × Misses ks bs

-- how far the words go with the text
abbrev pub farthest : List (List ℕ × Form) → List ℕ → ℕ
farthest [] bs = 0
farthest ((w, f) ∷ ks) bs = max (agreed w bs) (farthest ks bs)

-- the form whose word the text begins with, or how far the words go
abbrev pub Found : List Form → List ℕ → Result Form ℕ → Type 0
Found fs bs (Ok f) = In (spelling f) f (spelled_out fs) × (bs ≡ spelling f ++ drop (length (spelling f)) bs) × (length (spelling f) ≤ length bs)
Found fs bs (Err n) = Misses (spelled_out fs) bs × (n ≡ farthest (spelled_out fs) bs) × (n ≤ length bs)

-- no byte of the words is the one that a full sheet refuses
abbrev pub Clean : Sort → Seen → List ℕ → Type 0
Clean o s [] = Unit {0}
Clean o s (b ∷ w) = (many o b s ≡ false) × Clean o s w

-- none of the words has such a byte
abbrev pub Clear : Sort → Seen → List (List ℕ × Form) → Type 0
Clear o s [] = Unit {0}
Clear o s ((w, f) ∷ ks) = Clean o s w × Clear o s ks

-- an item of the sort may begin with the byte
abbrev pub begins_item : Sort → ℕ → Bool
begins_item Types c = c == 40 || c == 110
begins_item Worlds c = c == 40
begins_item Terms c = c == 40
begins_item First c = c == 40
begins_item Further c = c == 40

-- a world as two numbers: its kind, and the site or the count
abbrev pub kind_of : World → ℕ
kind_of (Site n) = 0
kind_of (Bound n) = 1

-- the number that a world has
abbrev pub count_of : World → ℕ
count_of (Site n) = n
count_of (Bound n) = n

-- what was read so far, over the tables; the values of open forms and the depth stand beside them
abbrev pub seen : Tables → List ℕ → ℕ → Seen
seen t vs d = record { vals = vs; depth = d; tys = t.types; tms = t.terms; stations = t.stations; start = t.start }

-- how reading goes on, with these tables
abbrev pub at : Reader → Program → List Want → List ℕ → ℕ → Outcome
at r p ws vs d = from r ws (seen (tables p) vs d)

-- how it goes on with a form's bracket open
abbrev pub inside : Reader → Program → Form → List Want → List ℕ → ℕ → Outcome
inside r p f ws vs d = from r ws (opened f (seen (tables p) vs d))

-- a type's form, and its parts, the last first
abbrev pub type_form : Ty → Form
type_form Num = TNum
type_form Never = TNone
type_form (Fn a b) = TFn
type_form (Boxed a) = TBox
type_form (At a) = TAt
type_form (Both a b) = TBoth

-- the values of a type's parts, the last first
abbrev pub parts_of_type : Ty → List ℕ
parts_of_type Num = []
parts_of_type Never = []
parts_of_type (Fn a b) = b ∷ a ∷ []
parts_of_type (Boxed a) = a ∷ []
parts_of_type (At a) = a ∷ []
parts_of_type (Both a b) = b ∷ a ∷ []

-- a term's form, and its parts, the last first
abbrev pub get_form : Mobile → Form
get_form Code = Getb
get_form Address = Getd
get_form Number = Getn

-- the form that a term has
abbrev pub term_form : Term → Form
term_form (TermAsNum n) = FormAsNum
term_form (Value n) = Val
term_form (Lam t b) = FormAsLam
term_form (App f a) = FormAsApp
term_form (TermAsBoxed a) = FormAsBoxed
term_form (Unbox a) = FormAsUnbox
term_form (Here a) = FormAsHere
term_form (Letd a b) = FormAsLetd
term_form (Get m w a) = get_form m
term_form (Pair a b) = FormAsPair
term_form (Fst a) = FormAsFst
term_form (Snd a) = FormAsSnd
term_form (Letcc t b) = FormAsLetcc
term_form (Throw t c a) = FormAsThrow
term_form (Go t w a) = FormAsGo
term_form (Gauge n) = FormAsGauge
term_form (Gate n a) = FormAsGate
term_form (Below t a b l o) = FormAsBelow

-- the values of a term's parts, the last first
abbrev pub parts_of_term : Term → List ℕ
parts_of_term (TermAsNum n) = n ∷ []
parts_of_term (Value n) = n ∷ []
parts_of_term (Lam t b) = b ∷ t ∷ []
parts_of_term (App f a) = a ∷ f ∷ []
parts_of_term (TermAsBoxed a) = a ∷ []
parts_of_term (Unbox a) = a ∷ []
parts_of_term (Here a) = a ∷ []
parts_of_term (Letd a b) = b ∷ a ∷ []
parts_of_term (Get m w a) = a ∷ kind_of w ∷ count_of w ∷ []
parts_of_term (Pair a b) = b ∷ a ∷ []
parts_of_term (Fst a) = a ∷ []
parts_of_term (Snd a) = a ∷ []
parts_of_term (Letcc t b) = b ∷ t ∷ []
parts_of_term (Throw t c a) = a ∷ c ∷ t ∷ []
parts_of_term (Go t w a) = a ∷ kind_of w ∷ count_of w ∷ t ∷ []
parts_of_term (Gauge n) = n ∷ []
parts_of_term (Gate n a) = a ∷ n ∷ []
parts_of_term (Below t a b l o) = o ∷ l ∷ b ∷ a ∷ t ∷ []

-- the forms of terms with two parts or more, where a world is none
abbrev pub longer : List Form
longer = FormAsLam ∷ FormAsApp ∷ FormAsLetd ∷ FormAsPair ∷ FormAsLetcc ∷ FormAsThrow ∷ FormAsGo ∷ FormAsGate ∷ FormAsBelow ∷ []
