-- What the scope list says: the context of a term.
use Rattle.std.specs.Prelude.{◌≡◌, ℕ, ◌+◌, List, [], ◌∷◌, ◌++◌, map, take, vec_items}
use Rattle.syntax.specs.declared.program.Ty.{Ty as TypeRow}
use Rattle.calculus.specs.Types.{Ty, World, site, bound}
use Rattle.calculus.specs.Typing.{Context as Around}
use Rattle.checker.specs.declared.context.At.{At}
use Rattle.checker.specs.declared.context.At.TheVariants.{Site, Level}
use Rattle.checker.specs.declared.context.Bound.{Bound}
use Rattle.checker.specs.declared.context.Height.{Height}
use Rattle.checker.specs.declared.context.Context.{Context}
use Rattle.checker.specs.TypeTable.{meaning}

-- the world of a level or a site
abbrev pub world_of : At → World
world_of (Site s) = site s
world_of (Level k) = bound k

-- a bound thing: its type and its world
abbrev pub bound_of : (ℕ → Ty) → Bound → Ty × World
bound_of M b = (M b.ty, world_of b.world)

-- what is bound below the height
abbrev pub values_of : Context → List Bound
values_of c = take c.height.values (vec_items c.values)

abbrev pub continuations_of : Context → List Bound
continuations_of c = take c.height.continuations (vec_items c.continuations)

abbrev pub around : (ℕ → Ty) → List Bound → ℕ → List Bound → Around
around M vs n ks = record { values = map (bound_of M) vs; worlds = n; continuations = map (bound_of M) ks }

-- the types of a scope list, and what its numbers stand for
abbrev pub rows_of : Context → List TypeRow
rows_of c = c.types.items

abbrev pub meaning_of : Context → ℕ → Ty
meaning_of c = meaning c.written (rows_of c)

-- the context that a scope list stands for
abbrev pub context_of : Context → Around
context_of c = around (meaning_of c) (values_of c) c.height.worlds (continuations_of c)

-- what lies below a height is the same in two scope lists
pub record Kept (h : Height) (c d : Context) : Type 0 where
  pub values : take h.values (vec_items d.values) ≡ take h.values (vec_items c.values)
  pub continuations : take h.continuations (vec_items d.continuations) ≡ take h.continuations (vec_items c.continuations)
  pub written : d.written ≡ c.written

-- a value more is bound
pub record BoundValue (c d : Context) (b : Bound) : Type 0 where
  pub values : values_of d ≡ values_of c ++ b ∷ []
  pub height : d.height ≡ record { values = c.height.values + 1; worlds = c.height.worlds; continuations = c.height.continuations }
  pub rows : rows_of d ≡ rows_of c
  pub kept : Kept c.height c d

-- a world more is bound
pub record BoundWorld (c d : Context) : Type 0 where
  pub height : d.height ≡ record { values = c.height.values; worlds = c.height.worlds + 1; continuations = c.height.continuations }
  pub rows : rows_of d ≡ rows_of c
  pub kept : Kept c.height c d

-- a continuation more is bound
pub record BoundContinuation (c d : Context) (b : Bound) : Type 0 where
  pub continuations : continuations_of d ≡ continuations_of c ++ b ∷ []
  pub height : d.height ≡ record { values = c.height.values; worlds = c.height.worlds; continuations = c.height.continuations + 1 }
  pub rows : rows_of d ≡ rows_of c
  pub kept : Kept c.height c d
