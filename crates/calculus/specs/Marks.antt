-- Marks of the registers touched: one for each register that a works may have, in the place of a list.
use Rattle.std.specs.Prelude.{◌≡◌, ℕ, suc, ◌+◌, ◌*◌, ◌<◌, Bool, true, false, List, [], ◌∷◌, ◌++◌, length, replicate, slice_index_or, slice_set}
use Rattle.calculus.specs.Step.{a_gauge, a_gate, Event, quiet, looked, was_read, was_set}
use Rattle.calculus.specs.Run.{Register, register, is_among, touched_by, touches, Distinct}

-- a register that a works may have: of one of 16 sites, one of 32 gauges or 32 gates
abbrev pub OnWorks : Register → Type 0
OnWorks (register κ s n) = (s < 16) × (n < 32)

-- There is a mark for each register that a works may have, 64 a site: 32 for its gauges, then 32 for its gates.
abbrev pub mark_of : Register → ℕ
mark_of (register a_gauge s n) = 64 * s + n
mark_of (register a_gate s n) = 64 * s + 32 + n

-- the marks, by their numbers, and whether each is set
abbrev pub Marks : Type 0
Marks = List Bool

-- no mark is set
unfoldable pub no_marks : Marks
no_marks = replicate 1024 false

-- the mark of one register more
abbrev pub with_mark : Register → Marks → Marks
with_mark r ms = slice_set ms (mark_of r) true

-- The marks after steps: those before, and those of the registers that the steps read or set.
abbrev pub marks_after : List Event → Marks → Marks
marks_after [] ms = ms
marks_after (quiet ∷ es) ms = marks_after es ms
marks_after (looked a b c ∷ es) ms = marks_after es ms
marks_after (was_read s g c ∷ es) ms = marks_after es (with_mark (register a_gauge s g) ms)
marks_after (was_set s g x c ∷ es) ms = marks_after es (with_mark (register a_gate s g) ms)

-- how many marks are set
abbrev pub marks_set : Marks → ℕ
marks_set [] = 0
marks_set (true ∷ ms) = suc (marks_set ms)
marks_set (false ∷ ms) = marks_set ms

-- each register that the steps read or set is one that a works may have
abbrev pub Fitted : List Event → Type 0
Fitted [] = Unit {0}
Fitted (quiet ∷ es) = Fitted es
Fitted (looked a b c ∷ es) = Fitted es
Fitted (was_read s g c ∷ es) = OnWorks (register a_gauge s g) × Fitted es
Fitted (was_set s g x c ∷ es) = OnWorks (register a_gate s g) × Fitted es

-- The marks tell the list: there is one for each register that a works may have, it is set exactly if the register is listed, and
-- as many are set as are listed.
pub record Tells (ms : Marks) (qs : List Register) : Type 0 where
  pub whole : length ms ≡ 1024
  pub each : (r : Register) → OnWorks r → slice_index_or ms (mark_of r) false ≡ is_among r qs
  pub many : marks_set ms ≡ length qs

-- The marks after these steps, from none: one is set exactly if a step read or set its register, and as many are set as there are
-- registers touched, each of which is listed once.
abbrev pub MarksTell : List Event → Type 0
MarksTell es =
    ((r : Register) → OnWorks r → slice_index_or (marks_after es no_marks) (mark_of r) false ≡ touches r es) ×
    (marks_set (marks_after es no_marks) ≡ length (touched_by es [])) ×
    ((r : Register) → is_among r (touched_by es []) ≡ touches r es) ×
    Distinct (touched_by es [])

-- The marks tell what the steps touched, each register once; and after runs in a row they are those of all their steps.
abbrev pub MarksStand : Type 0
MarksStand =
    ((es : List Event) → Fitted es → MarksTell es) × ((es fs : List Event) (ms : Marks) → marks_after (es ++ fs) ms ≡ marks_after fs (marks_after es ms))
