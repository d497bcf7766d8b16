-- What judging a term answers and leaves.
use Rattle.std.specs.Prelude.{◌≡◌, ℕ, ◌+◌, ◌<◌, ◌≤◌, Bool, true, false, cond, List, [], ◌∷◌, ◌++◌, length, take, Ok, Err, Result, slice_index_or}
use Rattle.syntax.specs.declared.program.Mobile.{Mobile}
use Rattle.syntax.specs.declared.program.Mobile.TheVariants.{Code, Address, Number}
use Rattle.lines.specs.declared.refusal.CheckFault.{CheckFault}
use Rattle.lines.specs.declared.refusal.CheckFault.TheVariants.{Mismatch}
use Rattle.instruments.specs.declared.sheet.Station.{Station}
use Rattle.syntax.specs.declared.program.Ty.{Ty as TypeRow}
use Rattle.syntax.specs.declared.program.Ty.TheVariants as Row
use Rattle.syntax.specs.declared.program.Term.{Term as TermRow}
use Rattle.syntax.specs.declared.program.Term.TheVariants as Term
use Rattle.calculus.specs.Types.{Ty}
use Rattle.calculus.specs.Program.{Program, decode, type_of}
use Rattle.calculus.specs.Checker.{Checked, typed, refused, expecting, examine, judge}
use Rattle.syntax.specs.Sound.{TermSound}
use Rattle.checker.specs.declared.context.At.{At}
use Rattle.checker.specs.declared.context.Height.{Height}
use Rattle.checker.specs.declared.context.Context.{Context}
use Rattle.checker.specs.declared.context.Bound.{Bound}
use Rattle.checker.specs.declared.spot.Spot.{Spot}
use Rattle.instruments.specs.Sheets.{stations_of}
use Rattle.checker.specs.TypeTable.{Laid}
use Rattle.checker.specs.Comparing.{alike}
use Rattle.checker.specs.Scopes.{values_of, continuations_of, rows_of, meaning_of, context_of, world_of, Kept}

-- the program that is checked: its stations and terms, and the written types of a scope list
abbrev pub checked_program : Context → List Station → List TermRow → Program
checked_program c stations terms = record { sheet = stations; types = take c.written (rows_of c); terms = terms; start = 0 }

-- how many terms there are in a term, with those of its parts
abbrev pub with_parts : (ℕ → ℕ) → TermRow → ℕ
with_parts f (Term.Num n) = 1
with_parts f (Term.Value n) = 1
with_parts f (Term.Lam t a) = 1 + f a
with_parts f (Term.App a b) = 1 + f a + f b
with_parts f (Term.Boxed a) = 1 + f a
with_parts f (Term.Unbox a) = 1 + f a
with_parts f (Term.Here a) = 1 + f a
with_parts f (Term.Letd a b) = 1 + f a + f b
with_parts f (Term.Get m w a) = 1 + f a
with_parts f (Term.Pair a b) = 1 + f a + f b
with_parts f (Term.Fst a) = 1 + f a
with_parts f (Term.Snd a) = 1 + f a
with_parts f (Term.Letcc t a) = 1 + f a
with_parts f (Term.Throw t n a) = 1 + f a
with_parts f (Term.Go t w a) = 1 + f a
with_parts f (Term.Gauge n) = 1
with_parts f (Term.Gate n a) = 1 + f a
with_parts f (Term.Below t a b x y) = 1 + f a + f b + f x + f y

abbrev pub size : List TermRow → ℕ → ℕ
size = decode (λ k f r. with_parts f r) 0

-- the types of bound things are below a number
abbrev pub EachBelow : ℕ → List Bound → Type 0
EachBelow n [] = Unit {0}
EachBelow n (b ∷ bs) = (b.ty < n) × EachBelow n bs

-- a scope list that can be checked in: its table is in order, and what is bound has types of the table, continuations written ones
pub record Ready (c : Context) : Type 0 where
  pub laid : Laid c.written (rows_of c)
  pub values : EachBelow (length (rows_of c)) (values_of c)
  pub continuations : EachBelow c.written (continuations_of c)

-- the terms of a table lead to terms and types that are there
abbrev pub SoundTerms : ℕ → List TermRow → Type 0
SoundTerms types terms = (n : ℕ) → n < length terms → TermSound types (n + 1) (length terms) (slice_index_or terms n (Term.Num 0))

-- what judging a term asks: there is room for a type for each of its terms, and no more is bound than terms stand before it
pub record Asks (c : Context) (terms : List TermRow) (term : ℕ) : Type 0 where
  pub ready : Ready c
  pub sound : SoundTerms c.written terms
  pub within : term < length terms
  pub short : length terms ≤ 1024
  pub room : length (rows_of c) + size terms term ≤ c.written + 1024
  pub few : c.written ≤ 512
  pub values : c.height.values ≤ term
  pub worlds : c.height.worlds ≤ term
  pub continuations : c.height.continuations ≤ term

-- the verdict on a term, and on a row in its place
abbrev pub verdict : Context → List Station → List TermRow → ℕ → At → Checked
verdict c stations terms term w = judge (checked_program c stations terms) term (context_of c) (world_of w)

abbrev pub row_verdict : Context → List Station → List TermRow → ℕ → TermRow → At → Checked
row_verdict c stations terms term row w =
    let P = checked_program c stations terms in examine stations (type_of P) term (judge P) row (context_of c) (world_of w)

-- types were added, at most `more` of them
pub record Grown (c : Context) (more : ℕ) (d : Context) : Type 0 where
  pub laid : Laid d.written (rows_of d)
  pub front : take (length (rows_of c)) (rows_of d) ≡ rows_of c
  pub few : length (rows_of d) ≤ length (rows_of c) + more

-- a term has the type with this number
pub record Typed (c : Context) (v : Checked) (n more : ℕ) (d : Context) : Type 0 where
  pub number : n < length (rows_of d)
  pub verdict : v ≡ typed (meaning_of d n)
  pub grown : Grown c more d

abbrev pub Answers : Context → Checked → Result ℕ CheckFault → ℕ → Context → Type 0
Answers c v (Ok n) more d = Typed c v n more d
Answers c v (Err e) more d = v ≡ refused e

-- what judging answers where the verdict is v
pub record Judged (c : Context) (v : Checked) (r : Result ℕ CheckFault) (more : ℕ) (d : Context) : Type 0 where
  pub answer : Answers c v r more d

-- a part with verdict v has the type A that it needs, and checking goes on
pub record Fits (c : Context) (v : Checked) (A : Ty) (part n more : ℕ) (d : Context) : Type 0 where
  pub number : n < length (rows_of d)
  pub is : meaning_of d n ≡ A
  pub goes : (k : Checked) → expecting part v A k ≡ k
  pub grown : Grown c more d

abbrev pub Holds : Context → Checked → Ty → ℕ → Result ℕ CheckFault → ℕ → Context → Type 0
Holds c v A part (Ok n) more d = Fits c v A part n more d
Holds c v A part (Err e) more d = (k : Checked) → expecting part v A k ≡ refused e

-- what holding a part to a type answers
pub record Held (c : Context) (v : Checked) (A : Ty) (part : ℕ) (r : Result ℕ CheckFault) (more : ℕ) (d : Context) : Type 0 where
  pub answer : Holds c v A part r more d

-- a scope list binds what it bound
pub record Same (c d : Context) : Type 0 where
  pub height : d.height ≡ c.height
  pub kept : Kept c.height c d

-- what judging the term at a spot asks, where it has this row
pub record AsksRow (c : Context) (s : Spot) (r : TermRow) : Type 0 where
  pub asks : Asks c s.setting.now.terms.now s.term
  pub row : slice_index_or s.setting.now.terms.now s.term (Term.Num 0) ≡ r

-- the verdict on the term at a spot
abbrev pub verdict_at : Context → Spot → At → Checked
verdict_at c s w = verdict c (stations_of s.setting.now.sheet.now) s.setting.now.terms.now s.term w

-- what judging it answers and leaves
pub record Judges (c : Context) (s : Spot) (w : At) (r : Result ℕ CheckFault) (d : Context) : Type 0 where
  pub judged : Judged c (verdict_at c s w) r (size s.setting.now.terms.now s.term) d
  pub same : Same c d

-- the same where it has this row
pub record JudgesRow (c : Context) (s : Spot) (row : TermRow) (w : At) (r : Result ℕ CheckFault) (d : Context) : Type 0 where
  pub judged : Judged c (row_verdict c (stations_of s.setting.now.sheet.now) s.setting.now.terms.now s.term row w) r (size s.setting.now.terms.now s.term) d
  pub same : Same c d

-- one height is under another
pub record Under (h k : Height) : Type 0 where
  pub values : h.values ≤ k.values
  pub worlds : h.worlds ≤ k.worlds
  pub continuations : h.continuations ≤ k.continuations

-- a type was built
pub record Built (c : Context) (row : TypeRow) (n : ℕ) (d : Context) : Type 0 where
  pub number : n ≡ length (rows_of c)
  pub rows : rows_of d ≡ rows_of c ++ row ∷ []
  pub same : Same c d

-- a type that a get may bring
abbrev pub carried_row : Mobile → TypeRow → Bool
carried_row Code Row.Num = false
carried_row Code Row.Never = false
carried_row Code (Row.Fn a b) = false
carried_row Code (Row.Boxed a) = true
carried_row Code (Row.At a) = false
carried_row Code (Row.Both a b) = false
carried_row Address Row.Num = false
carried_row Address Row.Never = false
carried_row Address (Row.Fn a b) = false
carried_row Address (Row.Boxed a) = false
carried_row Address (Row.At a) = true
carried_row Address (Row.Both a b) = false
carried_row Number Row.Num = true
carried_row Number Row.Never = false
carried_row Number (Row.Fn a b) = false
carried_row Number (Row.Boxed a) = false
carried_row Number (Row.At a) = false
carried_row Number (Row.Both a b) = false

-- a part is held to the type that it needs
abbrev pub held : Ty → Ty → ℕ → Result Unit CheckFault
held given needed part = cond (alike given needed) (Ok tt) (Err (Mismatch part))
