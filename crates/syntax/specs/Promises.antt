-- What is promised of every text: when it is read and to what, and when it is refused, by which number and at which place.
use Rattle.std.specs.Prelude.{◌≡◌, ℕ, ◌+◌, ◌≤◌, ◌⊎◌, List, [], ◌++◌, length}
use Rattle.syntax.specs.Reading.{Seen, read}
use Rattle.syntax.specs.Reading.Outcome.{done, refused}
use Rattle.syntax.specs.Trees.{Prog, Right, Limits, print, table, tables, Each, deep, terms, types}
use Rattle.syntax.specs.Refusals.{New, Nth, Holds, Given}
use Rattle.syntax.specs.Sound.{Sound, Low, size}

-- The bytes are the text of the program p, which keeps the limits.
pub record Texts (bs : List ℕ) (p : Prog) : Type 0 where
  pub right : Right p
  pub limits : Limits p
  pub text : print p ≡ bs

-- What is read of p: its tables, and nothing left open.
abbrev pub whole : Prog → Seen
whole p = record { vals = []; depth = 0; tys = (table p).tys; tms = (table p).tms; stations = (table p).stations; start = (table p).start }

-- What is read is a program whose text the bytes are, and which keeps the limits.
abbrev pub ReadRight : Type 0
ReadRight = (bs : List ℕ) (s : Seen) → read bs ≡ done s → (p : Prog) × (Texts bs p × (s ≡ whole p))

-- The text of every program that keeps the limits is read, to that program's tables.
abbrev pub ReadAll : Type 0
ReadAll = (bs : List ℕ) (p : Prog) → Texts bs p → read bs ≡ done (whole p)

-- Bytes are the text of at most one program.
abbrev pub ReadOne : Type 0
ReadOne = (bs : List ℕ) (p q : Prog) → Right p → Right q → print p ≡ bs → print q ≡ bs → p ≡ q

-- Writing what was read gives the bytes again, and these are read to the same.
abbrev pub Restored : Type 0
Restored = (bs : List ℕ) (s : Seen) → read bs ≡ done s → (p : Prog) × ((tables s ≡ table p) × (print p ≡ bs) × (read (print p) ≡ done s))

-- The tables that are read are sound: each number in them leads to a row that is there, and a part comes after what it is a part of.
abbrev pub ReadSound : Type 0
ReadSound = (bs : List ℕ) (s : Seen) → read bs ≡ done s → Sound (tables s)

-- No type and no term that is read is more than 64 high.
abbrev pub ReadLow : Type 0
ReadLow = (bs : List ℕ) (s : Seen) → read bs ≡ done s → Low (tables s)

-- The first term that is read has as many terms in it, with those of its parts, as the table has rows.
abbrev pub ReadTree : Type 0
ReadTree = (bs : List ℕ) (s : Seen) → read bs ≡ done s → size s.tms 0 ≡ length s.tms

-- Bytes are refused by n at p exactly if that refusal holds of them and comes before all others that hold.
abbrev pub RefusedExactly : Type 0
RefusedExactly = (bs : List ℕ) (n p : ℕ) → (read bs ≡ refused n p → Given bs n p) × (Given bs n p → read bs ≡ refused n p)

-- Bytes are read exactly if no refusal holds of them.
abbrev pub AcceptedExactly : Type 0
AcceptedExactly = (bs : List ℕ) → ((s : Seen) → read bs ≡ done s → (n p : ℕ) → Holds bs n p → ⊥) × (((n p : ℕ) → Holds bs n p → ⊥) → (s : Seen) × (read bs ≡ done s))

-- All bytes are the text of a program that keeps the limits, and are read to it, or have a first refusal, and are refused by that.
abbrev pub Answered : Type 0
Answered = (bs : List ℕ) → ((p : Prog) × (Texts bs p × (read bs ≡ done (whole p)))) ⊎ ((n : ℕ) × ((p : ℕ) × (Given bs n p × (read bs ≡ refused n p))))

-- What begins at a place of a program's text, and how many of them began before it, depends on the bytes before that place alone.
abbrev pub OneCount : Type 0
OneCount = (x : New) (n : ℕ) (p q : Prog) (before a b : List ℕ) → Right p → Right q → print p ≡ before ++ a → print q ≡ before ++ b → Nth x n p (length before) → Nth x n q (length before)

-- The program breaks the limit that the refusal n is for.
pub data Broken (p : Prog) : ℕ → Type 0 where
  long_broken : (length (print p) ≤ 65536 → ⊥) → Broken p 10
  deep_broken : (1 + deep p.main ≤ 64 → ⊥) → Broken p 12
  many_broken : ((terms p.main ≤ 1024) × (types p.main ≤ 512) → ⊥) → Broken p 13
  sheet-broken : ((length p.stations ≤ 16) × Each (λ h. (h.gauges ≤ 32) × (h.gates ≤ 32)) p.stations → ⊥) → Broken p 14

-- The text of a program is refused only by the number of a limit that the program breaks.
abbrev pub LimitRight : Type 0
LimitRight = (bs : List ℕ) (p : Prog) → Right p → print p ≡ bs → (n q : ℕ) → read bs ≡ refused n q → Broken p n
