-- The grammar as data: a row for each form.
use Rattle.std.specs.Prelude.{ℕ, ◌+◌, Bool, true, false, cond, List, [], ◌∷◌, ◌++◌, codes, ◌==◌, slice_index}
use Prim.Native.String.{String}
use Rattle.syntax.specs.declared.grammar.Form.{Form}
use Rattle.syntax.specs.declared.grammar.Form.TheVariants.{TNum, TNone, TFn, TBox, TAt, TBoth, Site, Bound, Num, Val, Lam, App, Boxed, Unbox, Here, Letd, Getb, Getd, Getn, Pair, Fst, Snd, Letcc, Throw, Go, Gauge, Gate, Below, Station, Run}
use Rattle.syntax.specs.declared.grammar.Sort.{Sort}
use Rattle.syntax.specs.declared.grammar.Sort.TheVariants.{Types, Worlds, Terms, First, Further}
use Rattle.syntax.specs.declared.program.Ty.{Ty}
use Rattle.syntax.specs.declared.program.Ty.TheVariants.{Num as TyAsNum, Never as TyAsNever, Fn as TyAsFn, Boxed as TyAsBoxed, At as TyAsAt, Both as TyAsBoth}
use Rattle.syntax.specs.declared.program.World.{World}
use Rattle.syntax.specs.declared.program.World.TheVariants.{Site as WorldAsSite, Bound as WorldAsBound}
use Rattle.syntax.specs.declared.program.Term.{Term}
use Rattle.syntax.specs.declared.program.Mobile.TheVariants.{Code, Address, Number}
use Rattle.syntax.specs.declared.program.Term.TheVariants.{Num as TermAsNum, Value as TermAsValue, Lam as TermAsLam, App as TermAsApp, Boxed as TermAsBoxed, Unbox as TermAsUnbox, Here as TermAsHere, Letd as TermAsLetd, Get as TermAsGet, Pair as TermAsPair, Fst as TermAsFst, Snd as TermAsSnd, Letcc as TermAsLetcc, Throw as TermAsThrow, Go as TermAsGo, Gauge as TermAsGauge, Gate as TermAsGate, Below as TermAsBelow}

-- What ends a part: the byte between parts, the byte that ends a form, or the byte that ends a line.
pub data Stop : Type 0 where
  space : Stop
  close : Form → Stop
  line : Stop

-- What a text has to go on with.
pub data Want : Type 0 where
  stop : Stop → Want
  number : Bool → Stop → Want  -- a number and its stop; true: it counts registers
  digits : Bool → ℕ → ℕ → Stop → Want  -- the same, begun at a place, with the value so far
  item : Sort → Want
  word : Sort → List (List ℕ × Form) → Want  -- what is left of the words still possible

-- A part that is a form is a type, a world or a term.
pub data Kind : Type 0 where
  type : Kind
  world : Kind
  term : Kind

-- A form's part is a number, or a form of a kind.
pub data Part : Type 0 where
  num : Part
  sub : Kind → Part

abbrev pub sort_of : Kind → Sort
sort_of type = Types
sort_of world = Worlds
sort_of term = Terms

-- What a form that ends makes: a row of a table, a world (0 for a site, 1 for a bound world), or a line.
pub data Made : Type 0 where
  a_type : Ty → Made
  a_world : ℕ → Made
  a_term : Term → Made
  a_station : ℕ → ℕ → Made
  a_start : ℕ → Made

-- The values of a form's parts stand in a list, the last first; a world has two, its kind and its number.
abbrev pub nth : ℕ → List ℕ → ℕ
nth k v = slice_index v k

abbrev pub world_by : ℕ → ℕ → World
world_by c n = cond (c == 0) (WorldAsSite n) (WorldAsBound n)

abbrev pub world_there : ℕ → List ℕ → World
world_there k v = world_by (nth k v) (nth (k + 1) v)

-- What the grammar says of a form.
pub record Row : Type 0 where
  pub sort : Sort
  pub spelling : List ℕ  -- the word, up to the first part or the last byte
  pub last : ℕ  -- the byte that ends the form
  pub counts : Bool  -- its numbers count registers
  pub parts : List Part  -- in their order
  pub next : List Want  -- what follows a line
  pub make : List ℕ → Made

-- A form in brackets: "(", its name, a space, its parts with spaces between them, ")".
abbrev bracket : Sort → String → List Part → (List ℕ → Made) → Row
bracket o w ps m = record { sort = o; spelling = 40 ∷ codes w ++ 32 ∷ []; last = 41; counts = false; parts = ps; next = []; make = m }

-- A type that is a bare word.
abbrev bare : String → ℕ → Ty → Row
bare w c t = record { sort = Types; spelling = codes w; last = c; counts = false; parts = []; next = []; make = λ v. a_type t }

-- A line: a form in brackets, with what follows it.
abbrev heads : String → Bool → List Part → List Want → (List ℕ → Made) → Row
heads w k ps n m = record { sort = Further; spelling = 40 ∷ codes w ++ 32 ∷ []; last = 41; counts = k; parts = ps; next = n; make = m }

-- The grammar: six types, two worlds, twenty terms and two lines.
abbrev pub row : Form → Row
row TNum = bare "nu" 109 TyAsNum
row TNone = bare "non" 101 TyAsNever
row TFn = bracket Types "fn" (sub type ∷ sub type ∷ []) (λ v. a_type (TyAsFn (nth 1 v) (nth 0 v)))
row TBox = bracket Types "box" (sub type ∷ []) (λ v. a_type (TyAsBoxed (nth 0 v)))
row TAt = bracket Types "at" (sub type ∷ []) (λ v. a_type (TyAsAt (nth 0 v)))
row TBoth = bracket Types "both" (sub type ∷ sub type ∷ []) (λ v. a_type (TyAsBoth (nth 1 v) (nth 0 v)))
row Site = bracket Worlds "site" (num ∷ []) (λ v. a_world 0)
row Bound = bracket Worlds "w" (num ∷ []) (λ v. a_world 1)
row Num = bracket Terms "num" (num ∷ []) (λ v. a_term (TermAsNum (nth 0 v)))
row Val = bracket Terms "v" (num ∷ []) (λ v. a_term (TermAsValue (nth 0 v)))
row Lam = bracket Terms "lam" (sub type ∷ sub term ∷ []) (λ v. a_term (TermAsLam (nth 1 v) (nth 0 v)))
row App = bracket Terms "app" (sub term ∷ sub term ∷ []) (λ v. a_term (TermAsApp (nth 1 v) (nth 0 v)))
row Boxed = bracket Terms "box" (sub term ∷ []) (λ v. a_term (TermAsBoxed (nth 0 v)))
row Unbox = bracket Terms "unbox" (sub term ∷ []) (λ v. a_term (TermAsUnbox (nth 0 v)))
row Here = bracket Terms "here" (sub term ∷ []) (λ v. a_term (TermAsHere (nth 0 v)))
row Letd = bracket Terms "letd" (sub term ∷ sub term ∷ []) (λ v. a_term (TermAsLetd (nth 1 v) (nth 0 v)))
row Getb = bracket Terms "getb" (sub world ∷ sub term ∷ []) (λ v. a_term (TermAsGet Code (world_there 1 v) (nth 0 v)))
row Getd = bracket Terms "getd" (sub world ∷ sub term ∷ []) (λ v. a_term (TermAsGet Address (world_there 1 v) (nth 0 v)))
row Getn = bracket Terms "getn" (sub world ∷ sub term ∷ []) (λ v. a_term (TermAsGet Number (world_there 1 v) (nth 0 v)))
row Pair = bracket Terms "pair" (sub term ∷ sub term ∷ []) (λ v. a_term (TermAsPair (nth 1 v) (nth 0 v)))
row Fst = bracket Terms "fst" (sub term ∷ []) (λ v. a_term (TermAsFst (nth 0 v)))
row Snd = bracket Terms "snd" (sub term ∷ []) (λ v. a_term (TermAsSnd (nth 0 v)))
row Letcc = bracket Terms "letcc" (sub type ∷ sub term ∷ []) (λ v. a_term (TermAsLetcc (nth 1 v) (nth 0 v)))
row Throw = bracket Terms "throw" (sub type ∷ num ∷ sub term ∷ []) (λ v. a_term (TermAsThrow (nth 2 v) (nth 1 v) (nth 0 v)))
row Go = bracket Terms "go" (sub type ∷ sub world ∷ sub term ∷ []) (λ v. a_term (TermAsGo (nth 3 v) (world_there 1 v) (nth 0 v)))
row Gauge = bracket Terms "gauge" (num ∷ []) (λ v. a_term (TermAsGauge (nth 0 v)))
row Gate = bracket Terms "gate" (num ∷ sub term ∷ []) (λ v. a_term (TermAsGate (nth 1 v) (nth 0 v)))
row Below = bracket Terms "below" (sub type ∷ sub term ∷ sub term ∷ sub term ∷ sub term ∷ []) (λ v. a_term (TermAsBelow (nth 4 v) (nth 3 v) (nth 2 v) (nth 1 v) (nth 0 v)))
row Station = heads "station" true (num ∷ num ∷ []) (stop line ∷ item Further ∷ []) (λ v. a_station (nth 1 v) (nth 0 v))
row Run = heads "run" false (num ∷ sub term ∷ []) (stop line ∷ []) (λ v. a_start (nth 1 v))

-- The forms of a sort; the first line is a station's.
abbrev pub forms : Sort → List Form
forms Types = TNum ∷ TNone ∷ TFn ∷ TBox ∷ TAt ∷ TBoth ∷ []
forms Worlds = Site ∷ Bound ∷ []
forms Terms = Num ∷ Val ∷ Lam ∷ App ∷ Boxed ∷ Unbox ∷ Here ∷ Letd ∷ Getb ∷ Getd ∷ Getn ∷ Pair ∷ Fst ∷ Snd ∷ Letcc ∷ Throw ∷ Go ∷ Gauge ∷ Gate ∷ Below ∷ []
forms First = Station ∷ []
forms Further = Station ∷ Run ∷ []

abbrev pub last : Form → ℕ
last f = (row f).last

abbrev pub spelling : Form → List ℕ
spelling f = (row f).spelling

abbrev pub parts : Form → List Part
parts f = (row f).parts

-- The byte that ends a part.
abbrev pub byte : Stop → ℕ
byte space = 32
byte (close f) = last f
byte line = 10

-- What ends a part of f that the parts ps follow.
abbrev pub sep : Form → List Part → Stop
sep f [] = close f
sep f (p ∷ ps) = space

-- What is wanted for the parts ps of f, each with what ends it, before ws.
abbrev pub more : Form → List Part → List Want → List Want
more f [] ws = ws
more f (num ∷ ps) ws = number (row f).counts (sep f ps) ∷ more f ps ws
more f (sub k ∷ ps) ws = item (sort_of k) ∷ stop (sep f ps) ∷ more f ps ws

-- A form with no parts has only its last byte after its word.
abbrev pub shut : Form → List Part → List Want → List Want
shut f [] ws = stop (close f) ∷ ws
shut f (p ∷ ps) ws = more f (p ∷ ps) ws

-- What is wanted after a form's word, where ws was wanted after the form.
abbrev pub wants : Form → List Want → List Want
wants f ws = shut f (parts f) ((row f).next ++ ws)

abbrev pub spelled_out : List Form → List (List ℕ × Form)
spelled_out [] = []
spelled_out (f ∷ fs) = (spelling f, f) ∷ spelled_out fs

-- The words of a sort, of which none begins another.
abbrev pub words : Sort → List (List ℕ × Form)
words o = spelled_out (forms o)

-- How many values a form of the sort is to the form around it.
abbrev pub cells : Sort → ℕ
cells Types = 1
cells Worlds = 2
cells Terms = 1
cells First = 0
cells Further = 0

abbrev pub cell : Part → ℕ
cell num = 1
cell (sub k) = cells (sort_of k)

abbrev pub width : List Part → ℕ
width [] = 0
width (p ∷ ps) = cell p + width ps
