-- What counts, worlds and registers of a term stand for.
use Rattle.std.specs.Prelude.{◌≡◌, ℕ, ◌-◌, ◌<◌, cond, List, length, None, Ok, Err, Option, Result, nat_lt}
use Rattle.std.specs.List.{slice_get}
use Rattle.lines.specs.declared.refusal.CheckFault.{CheckFault}
use Rattle.lines.specs.declared.refusal.CheckFault.TheVariants.{Unbound, BoundWorld, NotOnSheet}
use Rattle.lines.specs.declared.refusal.Instrument.{Instrument}
use Rattle.lines.specs.declared.refusal.Instrument.TheVariants.{Gauge, Gate}
use Rattle.instruments.specs.declared.sheet.Station.{Station}
use Rattle.syntax.specs.declared.program.World.{World as WorldRow}
use Rattle.calculus.specs.Types.{World, site, bound, gauges_there, gates_there}
use Rattle.calculus.specs.Program.{world_there}
use Rattle.checker.specs.declared.context.At.{At}
use Rattle.checker.specs.Scopes.{world_of}

-- the bound thing of a count, the last of the list being 0
abbrev pub innermost : {X : Type 0} → List X → ℕ → Option X
innermost xs i = cond (nat_lt i (length xs)) (slice_get xs (length xs - 1 - i)) None

-- a world is one of `sites` sites, or one of n bound worlds
abbrev pub Stands : ℕ → ℕ → World → Type 0
Stands sites n (site s) = s < sites
Stands sites n (bound k) = k < n

-- the world that a term names, or that it is not known
abbrev pub Located : ℕ → ℕ → WorldRow → ℕ → Result At CheckFault → Type 0
Located sites n x term (Ok a) = (world_of a ≡ world_there n x) × Stands sites n (world_there n x)
Located sites n x term (Err e) = (e ≡ Unbound term) × (Stands sites n (world_there n x) → ⊥)

-- how many registers of a kind each site of a sheet has
abbrev pub registers_there : Instrument → List Station → ℕ → ℕ
registers_there Gauge S = gauges_there S
registers_there Gate S = gates_there S

-- a register that a site has, where f says how many each has
abbrev pub registered : (ℕ → ℕ) → World → ℕ → ℕ → Result Unit CheckFault
registered f (site s) n term = cond (nat_lt n (f s)) (Ok tt) (Err (NotOnSheet term))
registered f (bound k) n term = Err (BoundWorld term)
