-- The refusals of a text, by the text alone: what each says of a place, and which of several is given.
use Rattle.std.specs.Prelude.{◌≡◌, ℕ, ◌+◌, ◌<◌, ◌≤◌, Bool, true, false, cond, ◌⊎◌, List, [], ◌∷◌, ◌++◌, length, decimal, ◌==◌, ◌≢◌}
use Rattle.syntax.specs.Grammar.{row, spelling, last}
use Rattle.syntax.specs.Trees.{Parts, Prog, Right, print, written, inside, station_parts, run_parts}
use Rattle.syntax.specs.Trees.Parts.{none, number, form}
use Rattle.syntax.specs.declared.grammar.Form.{Form}
use Rattle.syntax.specs.declared.grammar.Form.TheVariants.{Station, Run}
use Rattle.syntax.specs.declared.grammar.Sort.{Sort}
use Rattle.syntax.specs.declared.grammar.Sort.TheVariants.{Types, Worlds, Terms, First, Further}
use Rattle.instruments.specs.declared.sheet.Station.{Station as Counts}

-- What can begin at a place of a text: a line, a G or an H, a term, a type.
pub data New : Type 0 where
  new_line : New
  new_count : New
  new_term : New
  new_type : New

-- A form of the sort is one.
abbrev pub new_item : New → Sort → Bool
new_item new_line Types = false
new_item new_line Worlds = false
new_item new_line Terms = false
new_item new_line First = true
new_item new_line Further = true
new_item new_count o = false
new_item new_term Types = false
new_item new_term Worlds = false
new_item new_term Terms = true
new_item new_term First = false
new_item new_term Further = false
new_item new_type Types = true
new_item new_type Worlds = false
new_item new_type Terms = false
new_item new_type First = false
new_item new_type Further = false

-- A number is one where its form counts registers, as a station does.
abbrev pub new_number : New → Bool → Bool
new_number new_line k = false
new_number new_count k = k
new_number new_term k = false
new_number new_type k = false

-- A place more, if one begins there.
abbrev pub noted : Bool → ℕ → List ℕ → List ℕ
noted b i l = cond b (i ∷ l) l

-- How many bytes a form takes.
abbrev pub extent : Form → Parts → ℕ
extent f t = length (spelling f ++ inside t (last f ∷ []) (written f t []))

-- The places where such things begin in the parts of f, of which the first stands at i and each is followed by one byte.
abbrev pub starts : New → Form → Parts → ℕ → List ℕ
starts x f none i = []
starts x f (number n r) i = noted (new_number x (row f).counts) i (starts x f r (i + length (decimal n) + 1))
starts x f (form g t r) i = noted (new_item x (row g).sort) i (starts x g t (i + length (spelling g)) ++ starts x f r (i + extent g t + 1))

-- The lines of a program are forms, each followed by one byte.
abbrev pub station_lines : List Counts → Parts → Parts
station_lines [] r = r
station_lines (h ∷ hs) r = form Station (station_parts h) (station_lines hs r)

-- The places where such things begin in the text of a program, in their order.
abbrev pub begun_in : New → Prog → List ℕ
begun_in x p = starts x Run (station_lines p.stations (form Run (run_parts p) none)) 0

-- In the text of the program such a thing begins at the place p, and n of them begin before it.
abbrev pub Nth : New → ℕ → Prog → ℕ → Type 0
Nth x n q p = (l : List ℕ) × ((r : List ℕ) × ((begun_in x q ≡ l ++ p ∷ r) × (length l ≡ n)))

-- 11 at p: some program's text begins with the bytes before p, and none with these and the byte at p; where the bytes end at p, they are no program's text.
pub record Wrong (bs : List ℕ) (p : ℕ) : Type 0 where
  pub before : List ℕ
  pub after : List ℕ
  pub split : bs ≡ before ++ after
  pub place : p ≡ length before
  pub some : Prog
  pub right : Right some
  pub more : List ℕ
  pub alive : print some ≡ before ++ more
  pub dead : (d : ℕ) (x y : List ℕ) → after ≡ d ∷ x → (q : Prog) → Right q → print q ≢ before ++ d ∷ y
  pub short : after ≡ [] → (q : Prog) → Right q → print q ≢ before

-- The bytes `shows` stand at p, and some program's text begins with all that stands before p and these.
pub record Stands (bs : List ℕ) (p : ℕ) (shows : List ℕ) : Type 0 where
  pub before : List ℕ
  pub after : List ℕ
  pub split : bs ≡ before ++ (shows ++ after)
  pub place : p ≡ length before
  pub some : Prog
  pub right : Right some
  pub more : List ℕ
  pub alive : print some ≡ before ++ (shows ++ more)

-- How often a byte stands in a text.
abbrev pub tally : ℕ → List ℕ → ℕ
tally b [] = 0
tally b (c ∷ bs) = cond (c == b) 1 0 + tally b bs

-- 12 at p: a bracket opens there, and of those before it at least 64 are still open.
abbrev pub Deep : List ℕ → ℕ → Type 0
Deep bs p = (x : Stands bs p (40 ∷ [])) × (tally 41 x.before + 64 ≤ tally 40 x.before)

-- 13 at p: the 1,025th term or the 513th type begins there.
abbrev pub Many : List ℕ → ℕ → Type 0
Many bs p = (c : ℕ) × ((x : Stands bs p (c ∷ [])) × (Nth new_term 1024 x.some p ⊎ Nth new_type 512 x.some p))

-- 14 at p: the 17th line begins there, with "(s", or a G or an H begins there, with the digits of a number above 32.
pub data Sheeted (bs : List ℕ) (p : ℕ) : Type 0 where
  a_line : (x : Stands bs p (40 ∷ 115 ∷ [])) → Nth new_line 16 x.some p → Sheeted bs p
  a_count : (v : ℕ) → 32 < v → v < 65536 → (x : Stands bs p (decimal v)) (n : ℕ) → Nth new_count n x.some p → Sheeted bs p

-- The refusal n at the place p holds of the bytes; 10 is for more than 65,536 bytes.
pub data Holds (bs : List ℕ) : ℕ → ℕ → Type 0 where
  too_long : 65536 < length bs → Holds bs 10 65536
  no_text : {p : ℕ} → Wrong bs p → Holds bs 11 p
  too_deep : {p : ℕ} → Deep bs p → Holds bs 12 p
  too_many : {p : ℕ} → Many bs p → Holds bs 13 p
  too_wide : {p : ℕ} → Sheeted bs p → Holds bs 14 p

-- The order of refusals: 10 comes first; then the smaller place; at one place the lower number.
abbrev pub Before : ℕ → ℕ → ℕ → ℕ → Type 0
Before n p m q = (n ≡ 10) ⊎ ((m ≢ 10) × ((p < q) ⊎ ((p ≡ q) × (n ≤ m))))

-- The refusal n at p holds, and comes before all that hold.
pub record Given (bs : List ℕ) (n p : ℕ) : Type 0 where
  pub holds : Holds bs n p
  pub first : (m q : ℕ) → Holds bs m q → Before n p m q
