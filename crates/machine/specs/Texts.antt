-- How a value is written, with what its functions and code were made under, and the line that names an answer.
use Rattle.std.specs.Prelude.{ℕ, List, [], ◌++◌, codes, decimal}
use Rattle.calculus.specs.Machine
use Rattle.machine.specs.Meaning.{Meaning, value_of}
use Rattle.machine.specs.declared.parts.Bound.{Bound}
use Rattle.machine.specs.declared.parts.Bound.TheVariants as Bind

-- a word with a number, and the bracket that closes it
abbrev pub one_text : List ℕ → ℕ → List ℕ
one_text word n = word ++ (decimal n ++ codes ")")

-- a word with two numbers, and the bracket that closes it
abbrev pub two_text : List ℕ → ℕ → ℕ → List ℕ
two_text word m n = word ++ (decimal m ++ (codes " " ++ (decimal n ++ codes ")")))

abbrev mutual
  -- `(num n)`, `(fn P B..)`, `(code P B..)`, `(addr S L)` or `(pair V V)`: P is the number of the term, B.. is all that it was made under
  pub value_text : Machine.Value → List ℕ
  value_text (Machine.number n) = one_text (codes "(num ") n
  value_text (Machine.function p ρ) = (codes "(fn " ++ decimal p) ++ (bindings_text ρ ++ codes ")")
  value_text (Machine.code p ρ) = (codes "(code " ++ decimal p) ++ (bindings_text ρ ++ codes ")")
  value_text (Machine.address s l) = two_text (codes "(addr ") s l
  value_text (Machine.pair a b) = codes "(pair " ++ (value_text a ++ (codes " " ++ (value_text b ++ codes ")")))

  -- the bindings of a chain, the innermost first, each behind a space: a value, `(label S L)`, `(site S)` or `(cont S C)`
  pub bindings_text : Machine.Environment → List ℕ
  bindings_text Machine.empty = []
  bindings_text (Machine.value v ρ) = codes " " ++ (value_text v ++ bindings_text ρ)
  bindings_text (Machine.label s l ρ) = codes " " ++ (two_text (codes "(label ") s l ++ bindings_text ρ)
  bindings_text (Machine.world s ρ) = codes " " ++ (one_text (codes "(site ") s ++ bindings_text ρ)
  bindings_text (Machine.continuation s c ρ) = codes " " ++ (two_text (codes "(cont ") s c ++ bindings_text ρ)

-- the line that names an answer
abbrev pub answer_line : Machine.Value → List ℕ
answer_line v = codes "(answer " ++ (value_text v ++ codes ")\n")

-- what one binding of the tables adds behind its space
abbrev pub bound_text : List Meaning → Bound → List ℕ
bound_text ms (Bind.Value v) = value_text (value_of ms v)
bound_text ms (Bind.Label s l) = two_text (codes "(label ") s l
bound_text ms (Bind.World s) = one_text (codes "(site ") s
bound_text ms (Bind.Continuation s c) = two_text (codes "(cont ") s c
