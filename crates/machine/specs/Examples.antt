-- What a few tables stand for, and what a few steps answer.
use Rattle.std.specs.Prelude.{◌≡◌, List, [], ◌∷◌, codes, refl}
use Rattle.std.proofs.Math.Option.{some}
use Rattle.std.specs.Fmt.{digits}
use Rattle.calculus.specs.Machine
use Rattle.calculus.specs.Step.{Works, quiet, a_gate}
use Rattle.machine.specs.Meaning.{meanings, chains, environment_of, value_of, continuation_of}
use Rattle.machine.specs.Texts.{value_text, answer_line}
use Rattle.machine.specs.Answers.{answered, full, met}
use Rattle.machine.specs.declared.parts.Environment.TheVariants as Env
use Rattle.machine.specs.declared.parts.Value.TheVariants as Val
use Rattle.machine.specs.declared.parts.Bound.TheVariants as Bind
use Rattle.machine.specs.declared.parts.Cell.{Cell}
use Rattle.machine.specs.declared.parts.Cell.TheVariants as Holds
use Rattle.machine.specs.declared.parts.Task.TheVariants as Does
use Rattle.machine.specs.declared.parts.Continuation.TheVariants as Cont
use Rattle.machine.specs.declared.parts.Frame.{Frame}

-- cell 0 binds the world 3, cell 1 is the pair of 7 and 8, cell 2 binds that pair inside the world
abbrev cells : List Cell
cells =
    Holds.Binding (Bind.World 3) Env.Empty
    ∷ Holds.Pair (Val.Number 7) (Val.Number 8)
    ∷ Holds.Binding (Bind.Value (Val.Pair 1)) (Env.Cell 0)
    ∷ []

pub chain_of_two : environment_of (meanings cells) (Env.Cell 2) ≡ Machine.value (Machine.pair (Machine.number 7) (Machine.number 8)) (Machine.world 3 Machine.empty)
chain_of_two = refl

pub the_world_alone : environment_of (meanings cells) (Env.Cell 0) ≡ Machine.world 3 Machine.empty
the_world_alone = refl

pub a_function_in_it : value_of (meanings cells) (Val.Function 5 (Env.Cell 0)) ≡ Machine.function 5 (Machine.world 3 Machine.empty)
a_function_in_it = refl

-- frame 1 stands over frame 0, which stands over a return
abbrev frames : List Frame
frames = record { task = Does.Publish; next = Cont.Return 2 4 } ∷ record { task = Does.Apply 6 (Env.Cell 0); next = Cont.Frame 0 } ∷ []

pub two_frames : continuation_of (chains (meanings cells) frames) (Cont.Frame 1) ≡ Machine.push (Machine.to_apply 6 (Machine.world 3 Machine.empty)) (Machine.push Machine.publishing (Machine.return 2 4))
two_frames = refl

-- a step that lacks places is full, and one that meets a silent register is not, whatever is lacking
pub full_table : (M : Machine.State) (v : Works) → answered (Machine.stepped M v quiet) (some 2) ≡ full 2
full_table M v = refl

pub silent_first : answered (Machine.silent a_gate 1 4) (some 5) ≡ met a_gate 1 4
silent_first = refl

-- a function made under the number 3, and one made under nothing
pub answer_function : answer_line (Machine.function 2 (Machine.value (Machine.number 3) Machine.empty)) ≡ codes "(answer (fn 2 (num 3)))\n"
unfolding digits
answer_function = refl

pub function_under_nothing : value_text (Machine.function 0 Machine.empty) ≡ codes "(fn 0)"
unfolding digits
function_under_nothing = refl

-- code with a binding of each kind, the innermost first, and the chain of cell 2 as text
pub code_under_all : value_text (Machine.code 7 (Machine.label 3 12 (Machine.world 3 (Machine.continuation 0 255 (Machine.value (Machine.address 1 0) Machine.empty))))) ≡ codes "(code 7 (label 3 12) (site 3) (cont 0 255) (addr 1 0))"
unfolding digits
code_under_all = refl

pub function_of_the_cells : value_text (value_of (meanings cells) (Val.Function 5 (Env.Cell 2))) ≡ codes "(fn 5 (pair (num 7) (num 8)) (site 3))"
unfolding digits
function_of_the_cells = refl
