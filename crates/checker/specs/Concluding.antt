-- What judging a whole program answers.
use Rattle.std.specs.Prelude.{◌≡◌, ℕ, true, take, Ok, Err, Result}
use Rattle.lines.specs.declared.refusal.CheckFault.{CheckFault}
use Rattle.syntax.specs.Place.{Tables}
use Rattle.syntax.specs.Tests.{sound_test}
use Rattle.calculus.specs.Checker.{typed, refused, check}
use Rattle.checker.specs.declared.context.Height.{Height}
use Rattle.checker.specs.declared.context.Context.{Context}
use Rattle.checker.specs.Scopes.{rows_of, meaning_of}
use Rattle.checker.specs.Typed.{laid_test}
use Rattle.checker.specs.Accepting.{program_of}

-- a program that was read is sound
abbrev pub Sound : Tables → Type 0
Sound t = sound_test t.types t.terms t.stations ≡ true

-- nothing is bound
abbrev pub Clear : Height → Type 0
Clear h = (h.values ≡ 0) × (h.worlds ≡ 0) × (h.continuations ≡ 0)

-- the verdict on a program, with the number of its type in the table
abbrev pub Answers : Tables → Result ℕ CheckFault → Context → Type 0
Answers t (Ok n) c = (check (program_of t) ≡ typed (meaning_of c n)) × (take c.written (rows_of c) ≡ t.types) × (laid_test c.written (rows_of c) n ≡ true)
Answers t (Err e) c = check (program_of t) ≡ refused e

pub record Concluded (t : Tables) (r : Result ℕ CheckFault) (c : Context) : Type 0 where
  pub answer : Answers t r c
