-- How a type is written, and the line that names the type of an accepted program.
use Rattle.std.specs.Prelude.{ℕ, List, ◌++◌, Err, codes, Result}
use Rattle.lines.specs.declared.refusal.Refusal.{Refusal}
use Rattle.lines.specs.declared.refusal.Refusal.TheVariants.{Nothing}
use Rattle.lines.specs.Writing.{written, written_after}
use Rattle.calculus.specs.Types.{Ty, num, none, fn, box, at, both}
use Rattle.checker.specs.Accepting.{Place}
use Rattle.checker.specs.Accepting.Place.{empty, full}

abbrev pub type_text : Ty → List ℕ
type_text num = codes "num"
type_text none = codes "none"
type_text (fn A B) = codes "(fn " ++ (type_text A ++ (codes " " ++ (type_text B ++ codes ")")))
type_text (box A) = codes "(box " ++ (type_text A ++ codes ")")
type_text (at A) = codes "(at " ++ (type_text A ++ codes ")")
type_text (both A B) = codes "(both " ++ (type_text A ++ (codes " " ++ (type_text B ++ codes ")")))

abbrev pub type_line : Ty → List ℕ
type_line A = codes "(type " ++ (type_text A ++ codes ")\n")

-- what writing the type answers: 25 where the place is empty, else the line's length, or 34
abbrev pub type_written : Place → List ℕ → Result ℕ Refusal
type_written empty out = Err Nothing
type_written (full P A) out = written (type_line A) out

abbrev pub type_written_after : Place → List ℕ → List ℕ
type_written_after empty out = out
type_written_after (full P A) out = written_after (type_line A) out
