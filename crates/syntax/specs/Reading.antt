-- How a text is read: byte by byte, over what it has to go on with.
use Rattle.std.specs.Prelude.{ℕ, ◌+◌, ◌-◌, ◌*◌, Bool, false, cond, ◌&&◌, List, [], ◌∷◌, ◌++◌, length, take, drop, ◌==◌, nat_le, nat_lt, slice_index, slice_set}
use Rattle.std.specs.Char.{is_ascii_digit}
use Rattle.syntax.specs.Grammar.{Stop, Want, Made, byte, last, wants, words, row, parts, width}
use Rattle.syntax.specs.Grammar.Made.{a_type, a_world, a_term, a_station, a_start}
use Rattle.syntax.specs.Grammar.Stop.{space, close, line}
use Rattle.syntax.specs.Grammar.Want.{stop, number, digits, item, word}
use Rattle.syntax.specs.declared.grammar.Form.{Form}
use Rattle.syntax.specs.declared.grammar.Sort.{Sort}
use Rattle.syntax.specs.declared.grammar.Sort.TheVariants.{Types, Worlds, Terms, First, Further}
use Rattle.syntax.specs.declared.program.Ty.{Ty}
use Rattle.syntax.specs.declared.program.Ty.TheVariants.{Num as TyAsNum}
use Rattle.syntax.specs.declared.program.Term.{Term}
use Rattle.syntax.specs.declared.program.Term.TheVariants.{Num as TermAsNum}
use Rattle.instruments.specs.declared.sheet.Station.{Station as Counts}

-- What was read so far; the values of the parts of open forms are on a stack.
pub record Seen : Type 0 where
  pub vals : List ℕ
  pub depth : ℕ
  pub tys : List Ty
  pub tms : List Term
  pub stations : List Counts
  pub start : ℕ

-- Nothing was read.
abbrev pub start_none : Seen
start_none = record { vals = []; depth = 0; tys = []; tms = []; stations = []; start = 0 }

-- One value more.
abbrev pub push : ℕ → Seen → Seen
push v s = record { vals = v ∷ s.vals; depth = s.depth; tys = s.tys; tms = s.tms; stations = s.stations; start = s.start }

-- So many brackets are open.
abbrev pub at_depth : ℕ → Seen → Seen
at_depth d s = record { vals = s.vals; depth = d; tys = s.tys; tms = s.tms; stations = s.stations; start = s.start }

-- A type or a term begins: it takes the next number, and the row of that number.
abbrev pub begun : Sort → Seen → Seen
begun Types s = record { vals = length s.tys ∷ s.vals; depth = s.depth; tys = s.tys ++ TyAsNum ∷ []; tms = s.tms; stations = s.stations; start = s.start }
begun Worlds s = s
begun Terms s = record { vals = length s.tms ∷ s.vals; depth = s.depth; tys = s.tys; tms = s.tms ++ TermAsNum 0 ∷ []; stations = s.stations; start = s.start }
begun First s = s
begun Further s = s

-- One that ends is written into its row; n values of parts lie above its number.
abbrev pub settled : ℕ → Made → Seen → Seen
settled n (a_type t) s = record { vals = drop n s.vals; depth = s.depth; tys = slice_set s.tys (slice_index s.vals n) t; tms = s.tms; stations = s.stations; start = s.start }
settled n (a_world c) s = push c s
settled n (a_term t) s = record { vals = drop n s.vals; depth = s.depth; tys = s.tys; tms = slice_set s.tms (slice_index s.vals n) t; stations = s.stations; start = s.start }
settled n (a_station g h) s = record { vals = drop n s.vals; depth = s.depth; tys = s.tys; tms = s.tms; stations = s.stations ++ record { gauges = g; gates = h } ∷ []; start = s.start }
settled n (a_start w) s = record { vals = drop n s.vals; depth = s.depth; tys = s.tys; tms = s.tms; stations = s.stations; start = w }

-- A form ends: its parts' values make it.
abbrev pub ended : Form → Seen → Seen
ended f s = settled (width (parts f)) ((row f).make (take (width (parts f)) s.vals)) s

-- A form whose word is whole has its bracket open, if it has one.
abbrev pub opened : Form → Seen → Seen
opened f s = at_depth (cond (last f == 41) (s.depth + 1) s.depth) s

-- What the end of a part does: a form that ends has its bracket closed, if it has one.
abbrev pub passed : Stop → Seen → Seen
passed space s = s
passed (close f) s = ended f (at_depth (cond (last f == 41) (s.depth - 1) s.depth) s)
passed line s = s

-- There are 512 types, or 1,024 terms, so that no other may begin.
abbrev pub full : Sort → Seen → Bool
full Types s = nat_le 512 (length s.tys)
full Worlds s = false
full Terms s = nat_le 1024 (length s.tms)
full First s = false
full Further s = false

-- The words that go on with the byte c, from there.
abbrev pub after : ℕ → List (List ℕ × Form) → List (List ℕ × Form)
after c [] = []
after c (([], f) ∷ ws) = after c ws
after c ((b ∷ bs, f) ∷ ws) = cond (c == b) ((bs, f) ∷ after c ws) (after c ws)

-- One byte more leads to what is wanted then, or to a refusal and its place.
pub data Move : Type 0 where
  on : List Want → Seen → Move
  off : ℕ → ℕ → Move

abbrev pub digit : ℕ → Bool
digit c = is_ascii_digit c

-- The byte c is the s of the 17th line that begins "(s".
abbrev pub many : Sort → ℕ → Seen → Bool
many Types c s = false
many Worlds c s = false
many Terms c s = false
many First c s = false
many Further c s = c == 115 && nat_le 16 (length s.stations)

-- An item begins with the byte c, which leaves the words ks.
abbrev pub began : Sort → List (List ℕ × Form) → List Want → Seen → ℕ → ℕ → Move
began o [] ws s i c = off 11 i
began o (w ∷ ks) ws s i c =
    cond (c == 40 && nat_le 64 s.depth) (off 12 i)
    (cond (full o s) (off 13 i)
    (on (word o (w ∷ ks) ∷ ws) (begun o s)))

-- A word goes on with the byte c, which leaves the words ks: one of them is whole, or they go on.
abbrev pub spelled : Sort → List (List ℕ × Form) → List Want → Seen → ℕ → ℕ → Move
spelled o [] ws s i c = off 11 i
spelled o (([], f) ∷ ks) ws s i c = on (wants f ws) (opened f s)
spelled o ((b ∷ bs, f) ∷ ks) ws s i c = cond (many o c s) (off 14 (i - 1)) (on (word o ((b ∷ bs, f) ∷ ks) ∷ ws) s)

abbrev pub counted : Bool → ℕ → Bool
counted k v = k && nat_lt 32 v

-- One byte, by what is wanted; i is its place.
abbrev pub step : List Want → Seen → ℕ → ℕ → Move
step [] s i c = off 11 i
step (stop a ∷ ws) s i c = cond (c == byte a) (on ws (passed a s)) (off 11 i)
step (number k a ∷ ws) s i c =
    cond (c == 48) (on (stop a ∷ ws) (push 0 s))
    (cond (digit c) (on (digits k i (c - 48) a ∷ ws) s) (off 11 i))
step (digits k p v a ∷ ws) s i c =
    cond (c == byte a) (on ws (passed a (push v s)))
    (cond (digit c && nat_lt (v * 10 + (c - 48)) 65536)
    (cond (counted k (v * 10 + (c - 48))) (off 14 p) (on (digits k p (v * 10 + (c - 48)) a ∷ ws) s))
    (off 11 i))
step (item o ∷ ws) s i c = began o (after c (words o)) ws s i c
step (word o ks ∷ ws) s i c = spelled o (after c ks) ws s i c

-- A text is read, or refused by a number at a place.
pub data Outcome : Type 0 where
  done : Seen → Outcome
  refused : ℕ → ℕ → Outcome

-- The text ends: nothing may be wanted.
abbrev pub over : List Want → Seen → ℕ → Outcome
over [] s i = done s
over (w ∷ ws) s i = refused 11 i

-- The bytes one after the other, from the place i on.
unfoldable pub go : List ℕ → List Want → Seen → ℕ → Outcome
go [] ws s i = over ws s i
go (c ∷ bs) ws s i = elim (step ws s i c) [ on ws' s' ↦ go bs ws' s' (i + 1) | off n p ↦ refused n p ]

-- A text of more than 65,536 bytes is refused first.
abbrev pub read : List ℕ → Outcome
read bs = cond (nat_lt 65536 (length bs)) (refused 10 65536) (go bs (item First ∷ []) start_none 0)
