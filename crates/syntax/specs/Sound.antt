-- Sound tables: their numbers lead to rows that are there, a part's number is larger than its whole's, and nothing is high; and how many terms there are in a term.
use Rattle.std.specs.Prelude.{ℕ, zero, suc, ◌+◌, ◌-◌, ◌<◌, ◌≤◌, List, [], ◌∷◌, length, slice_index, slice_index_or}
use Rattle.syntax.specs.Trees.{Tables, Each}
use Rattle.syntax.specs.declared.program.Ty.{Ty}
use Rattle.syntax.specs.declared.program.Ty.TheVariants.{Num as TyAsNum, Never as TyAsNever, Fn as TyAsFn, Boxed as TyAsBoxed, At as TyAsAt, Both as TyAsBoth}
use Rattle.syntax.specs.declared.program.World.{World}
use Rattle.syntax.specs.declared.program.World.TheVariants.{Site as WorldAsSite, Bound as WorldAsBound}
use Rattle.syntax.specs.declared.program.Term.{Term}
use Rattle.syntax.specs.declared.program.Term.TheVariants.{Num as TermAsNum, Value as TermAsValue, Lam as TermAsLam, App as TermAsApp, Boxed as TermAsBoxed, Unbox as TermAsUnbox, Here as TermAsHere, Letd as TermAsLetd, Get as TermAsGet, Pair as TermAsPair, Fst as TermAsFst, Snd as TermAsSnd, Letcc as TermAsLetcc, Throw as TermAsThrow, Go as TermAsGo, Gauge as TermAsGauge, Gate as TermAsGate, Below as TermAsBelow}

-- The number of a part is at least `low` and below `high`.
abbrev pub Inside : ℕ → ℕ → ℕ → Type 0
Inside low high n = (low ≤ n) × (n < high)

-- A number of the text is below 65,536.
abbrev pub Small : ℕ → Type 0
Small n = n < 65536

-- The parts of a type have numbers from `low` up to and without `high`.
abbrev pub TySound : ℕ → ℕ → Ty → Type 0
TySound low high TyAsNum = Unit {0}
TySound low high TyAsNever = Unit {0}
TySound low high (TyAsFn a b) = Inside low high a × Inside low high b
TySound low high (TyAsBoxed a) = Inside low high a
TySound low high (TyAsAt a) = Inside low high a
TySound low high (TyAsBoth a b) = Inside low high a × Inside low high b

-- A world has a number of the text.
abbrev pub WorldSound : World → Type 0
WorldSound (WorldAsSite n) = Small n
WorldSound (WorldAsBound n) = Small n

-- The parts of a term have numbers from `low` up to and without `high`, its type has a number below `types`, and its other numbers are of the text.
abbrev pub TermSound : ℕ → ℕ → ℕ → Term → Type 0
TermSound types low high (TermAsNum n) = Small n
TermSound types low high (TermAsValue n) = Small n
TermSound types low high (TermAsLam t a) = (t < types) × Inside low high a
TermSound types low high (TermAsApp a b) = Inside low high a × Inside low high b
TermSound types low high (TermAsBoxed a) = Inside low high a
TermSound types low high (TermAsUnbox a) = Inside low high a
TermSound types low high (TermAsHere a) = Inside low high a
TermSound types low high (TermAsLetd a b) = Inside low high a × Inside low high b
TermSound types low high (TermAsGet m w a) = WorldSound w × Inside low high a
TermSound types low high (TermAsPair a b) = Inside low high a × Inside low high b
TermSound types low high (TermAsFst a) = Inside low high a
TermSound types low high (TermAsSnd a) = Inside low high a
TermSound types low high (TermAsLetcc t a) = (t < types) × Inside low high a
TermSound types low high (TermAsThrow t n a) = (t < types) × Small n × Inside low high a
TermSound types low high (TermAsGo t w a) = (t < types) × WorldSound w × Inside low high a
TermSound types low high (TermAsGauge n) = Small n
TermSound types low high (TermAsGate n a) = Small n × Inside low high a
TermSound types low high (TermAsBelow t a b c d) = (t < types) × Inside low high a × Inside low high b × Inside low high c × Inside low high d

-- The parts of the type numbered n are types of the table with numbers larger than n.
abbrev pub TypesSound : Tables → Type 0
TypesSound t = (n : ℕ) → n < length t.tys → TySound (n + 1) (length t.tys) (slice_index_or t.tys n TyAsNum)

-- The parts of the term numbered n are terms of the table with numbers larger than n; a type that it has written is in the table.
abbrev pub TermsSound : Tables → Type 0
TermsSound t = (n : ℕ) → n < length t.tms → TermSound (length t.tys) (n + 1) (length t.tms) (slice_index_or t.tms n (TermAsNum 0))

-- There are 1 to 1,024 terms, at most 512 types and 1 to 16 stations, each with at most 32 gauges and 32 gates.
abbrev pub SizesSound : Tables → Type 0
SizesSound t =
    (0 < length t.tms) × (length t.tms ≤ 1024) × (length t.tys ≤ 512)
    × (0 < length t.stations) × (length t.stations ≤ 16) × Each (λ h. (h.gauges ≤ 32) × (h.gates ≤ 32)) t.stations

-- What holds of every table that is read.
abbrev pub Sound : Tables → Type 0
Sound t = TypesSound t × TermsSound t × SizesSound t × Small t.start

-- P holds of the number of each part of a type.
abbrev pub TyParts : (ℕ → Type 0) → Ty → Type 0
TyParts P TyAsNum = Unit {0}
TyParts P TyAsNever = Unit {0}
TyParts P (TyAsFn a b) = P a × P b
TyParts P (TyAsBoxed a) = P a
TyParts P (TyAsAt a) = P a
TyParts P (TyAsBoth a b) = P a × P b

-- P holds of the number of each part of a term that is a term.
abbrev pub TermParts : (ℕ → Type 0) → Term → Type 0
TermParts P (TermAsNum n) = Unit {0}
TermParts P (TermAsValue n) = Unit {0}
TermParts P (TermAsLam t a) = P a
TermParts P (TermAsApp a b) = P a × P b
TermParts P (TermAsBoxed a) = P a
TermParts P (TermAsUnbox a) = P a
TermParts P (TermAsHere a) = P a
TermParts P (TermAsLetd a b) = P a × P b
TermParts P (TermAsGet m w a) = P a
TermParts P (TermAsPair a b) = P a × P b
TermParts P (TermAsFst a) = P a
TermParts P (TermAsSnd a) = P a
TermParts P (TermAsLetcc t a) = P a
TermParts P (TermAsThrow t n a) = P a
TermParts P (TermAsGo t w a) = P a
TermParts P (TermAsGauge n) = Unit {0}
TermParts P (TermAsGate n a) = P a
TermParts P (TermAsBelow t a b c d) = P a × P b × P c × P d

-- The type numbered n is at most k types high: it has parts, these have parts, and so on, no more than k of them in a row.
abbrev pub TyLow : List Ty → ℕ → ℕ → Type 0
TyLow tys zero n = ⊥
TyLow tys (suc k) n = TyParts (λ a. TyLow tys k a) (slice_index_or tys n TyAsNum)

-- The term numbered n is at most k terms high.
abbrev pub TermLow : List Term → ℕ → ℕ → Type 0
TermLow tms zero n = ⊥
TermLow tms (suc k) n = TermParts (λ a. TermLow tms k a) (slice_index_or tms n (TermAsNum 0))

-- No type and no term is more than 64 high.
abbrev pub Low : Tables → Type 0
Low t = ((n : ℕ) → n < length t.tys → TyLow t.tys 64 n) × ((n : ℕ) → n < length t.tms → TermLow t.tms 64 n)

-- 1 and what f gives of each part of a term that is a term.
abbrev pub with_parts : (ℕ → ℕ) → Term → ℕ
with_parts f (TermAsNum n) = 1
with_parts f (TermAsValue n) = 1
with_parts f (TermAsLam t a) = 1 + f a
with_parts f (TermAsApp a b) = 1 + f a + f b
with_parts f (TermAsBoxed a) = 1 + f a
with_parts f (TermAsUnbox a) = 1 + f a
with_parts f (TermAsHere a) = 1 + f a
with_parts f (TermAsLetd a b) = 1 + f a + f b
with_parts f (TermAsGet m w a) = 1 + f a
with_parts f (TermAsPair a b) = 1 + f a + f b
with_parts f (TermAsFst a) = 1 + f a
with_parts f (TermAsSnd a) = 1 + f a
with_parts f (TermAsLetcc t a) = 1 + f a
with_parts f (TermAsThrow t n a) = 1 + f a
with_parts f (TermAsGo t w a) = 1 + f a
with_parts f (TermAsGauge n) = 1
with_parts f (TermAsGate n a) = 1 + f a
with_parts f (TermAsBelow t a b x y) = 1 + f a + f b + f x + f y

-- The size of each term of the rows, of which the first is numbered k.
abbrev pub sizes : ℕ → List Term → List ℕ
sizes k [] = []
sizes k (r ∷ rs) = let ms = sizes (suc k) rs in with_parts (λ c. slice_index ms (c - suc k)) r ∷ ms

-- How many terms there are in the term numbered p, with those of its parts.
abbrev pub size : List Term → ℕ → ℕ
size ts p = slice_index (sizes 0 ts) p
