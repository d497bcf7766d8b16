-- Types, worlds and sheets.
use Rattle.std.specs.Prelude.{ℕ, zero, suc, List, [], ◌∷◌}
use Rattle.instruments.specs.declared.sheet.Station.{Station}

-- `none` has no value; a `box` is code for any world, an `at` is the address of a value, a `both` is a pair.
pub data Ty : Type 0 where
  num : Ty
  none : Ty
  fn : Ty → Ty → Ty
  box : Ty → Ty
  at : Ty → Ty
  both : Ty → Ty → Ty
  deriving Discrete as same_type

-- A world is a site, or the bound world at a level: the outermost is 0.
pub data World : Type 0 where
  site : ℕ → World
  bound : ℕ → World
  deriving Discrete as world_discrete

-- A sheet says of each site how many gauges and how many gates it has.
abbrev pub Sheet : Type 0
Sheet = List Station

abbrev pub gauges_there : Sheet → ℕ → ℕ
gauges_there [] s = 0
gauges_there (h ∷ hs) zero = h.gauges
gauges_there (h ∷ hs) (suc s) = gauges_there hs s

abbrev pub gates_there : Sheet → ℕ → ℕ
gates_there [] s = 0
gates_there (h ∷ hs) zero = h.gates
gates_there (h ∷ hs) (suc s) = gates_there hs s
