-- Each refusal's number, and the values that it names, in their order.
use Rattle.std.specs.Prelude.{ℕ, List, [], ◌∷◌, ◌++◌, codes, decimal}
use Rattle.lines.specs.declared.refusal.RegisterFault.{RegisterFault}
use Rattle.lines.specs.declared.refusal.RegisterFault.TheVariants.{NotFitted, Silent}
use Rattle.lines.specs.declared.refusal.ImageFault.{ImageFault}
use Rattle.lines.specs.declared.refusal.ImageFault.TheVariants.{Length, Byte}
use Rattle.lines.specs.declared.refusal.TextFault.{TextFault}
use Rattle.lines.specs.declared.refusal.TextFault.TheVariants.{TooLong, Grammar, TooDeep, TooMany, Sheet}
use Rattle.lines.specs.declared.refusal.CheckFault.{CheckFault}
use Rattle.lines.specs.declared.refusal.CheckFault.TheVariants.{Unbound, Elsewhere, Mismatch, BoundWorld, NotOnSheet}
use Rattle.lines.specs.declared.refusal.Table.{Table}
use Rattle.lines.specs.declared.refusal.Table.TheVariants.{Frames, Bindings, Pairs, Published, Kept}
use Rattle.lines.specs.declared.refusal.Instrument.{Instrument}
use Rattle.lines.specs.declared.refusal.Instrument.TheVariants.{Gauge, Gate}
use Rattle.lines.specs.declared.refusal.StepFault.{StepFault}
use Rattle.lines.specs.declared.refusal.StepFault.TheVariants.{Full, Register as Unheard}
use Rattle.lines.specs.declared.refusal.RunFault.{RunFault}
use Rattle.lines.specs.declared.refusal.Refusal.{Refusal}
use Rattle.lines.specs.declared.refusal.Refusal.TheVariants.{Text, Check, Nothing, AnotherSheet, Run, NotDone, ShortBuffer, Register, Image}

-- a refusal as its reader sees it: its number, the first value that it names, and the others
pub record Code : Type 0 where
  pub number : ℕ
  pub first : ℕ
  pub others : List ℕ

abbrev named : ℕ → ℕ → Code
named n v = record { number = n; first = v; others = [] }

-- a text: the longest length, or the place of a byte
abbrev pub text_code : TextFault → Code
text_code TooLong = named 10 65536
text_code (Grammar place) = named 11 place
text_code (TooDeep place) = named 12 place
text_code (TooMany place) = named 13 place
text_code (Sheet place) = named 14 place

-- a program: the number of a term
abbrev pub check_code : CheckFault → Code
check_code (Unbound term) = named 20 term
check_code (Elsewhere term) = named 21 term
check_code (Mismatch part) = named 22 part
check_code (BoundWorld term) = named 23 term
check_code (NotOnSheet term) = named 24 term

-- a register: its site and its number
abbrev pub register_code : RegisterFault → Code
register_code (NotFitted site number) = record { number = 40; first = site; others = number ∷ [] }
register_code (Silent site number) = record { number = 41; first = site; others = number ∷ [] }

-- the site of a register that does not answer
abbrev pub site_named : RegisterFault → ℕ
site_named (NotFitted site number) = site
site_named (Silent site number) = site

-- the number of a register that does not answer
abbrev pub number_named : RegisterFault → ℕ
number_named (NotFitted site number) = number
number_named (Silent site number) = number

-- the kinds of tables by their numbers
abbrev pub table_kind : Table → ℕ
table_kind Frames = 1
table_kind Bindings = 2
table_kind Pairs = 3
table_kind Published = 4
table_kind Kept = 5

-- the kinds of registers by their numbers
abbrev pub instrument_kind : Instrument → ℕ
instrument_kind Gauge = 0
instrument_kind Gate = 1

-- A run meets a register that does not answer: its site, whether it is a gauge or a gate, its number, and the steps before. Or
-- a table lacks places: its kind, the site where the machine stands, and the steps before.
abbrev step_code : StepFault → ℕ → ℕ → Code
step_code (Unheard r) site steps = record { number = 31; first = site_named r.fault; others = instrument_kind r.instrument ∷ (number_named r.fault ∷ (steps ∷ [])) }
step_code (Full table) site steps = record { number = 32; first = table_kind table; others = site ∷ (steps ∷ []) }

-- a run: the fault of its last step, with the site and the steps that it carries
abbrev pub run_code : RunFault → Code
run_code r = step_code r.fault r.site r.steps

-- an image: its length, or the place of a byte
abbrev pub image_code : ImageFault → Code
image_code (Length length) = named 42 length
image_code (Byte place) = named 43 place

abbrev pub code : Refusal → Code
code (Text fault) = text_code fault
code (Check fault) = check_code fault
code Nothing = named 25 0
code (AnotherSheet site) = named 30 site
code (Run fault) = run_code fault
code NotDone = named 33 0
code ShortBuffer = named 34 0
code (Register fault) = register_code fault
code (Image fault) = image_code fault

-- the line that names a refusal by its number and first value
abbrev pub refused_line : Refusal → List ℕ
refused_line r = codes "(refused " ++ (decimal (code r).number ++ (codes " " ++ (decimal (code r).first ++ codes ")\n")))

-- values in a line, each behind a space
abbrev pub values_text : List ℕ → List ℕ
values_text [] = []
values_text (v ∷ vs) = codes " " ++ (decimal v ++ values_text vs)

-- the line that names a refusal by its number and all its values
abbrev pub refusal_line : Refusal → List ℕ
refusal_line r = codes "(refused " ++ (decimal (code r).number ++ (codes " " ++ (decimal (code r).first ++ (values_text (code r).others ++ codes ")\n"))))
