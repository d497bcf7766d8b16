-- When a binding may be put in for the outermost level of its kind, and what is bound before and after.
use Rattle.std.specs.Prelude.{◌≡◌, ℕ, suc, ◌<◌, List, ◌∷◌, map, length}
use Rattle.std.proofs.Math.Option.{some}
use Rattle.calculus.specs.Types.{Ty, World, site, Sheet}
use Rattle.calculus.specs.Terms.{Value, Binding, value, label, world, continuation}
use Rattle.calculus.specs.Substitution.{substitute_world}
use Rattle.calculus.specs.Tables.{entry}
use Rattle.calculus.specs.Typing.{Entries, Context, HasValue}

-- the bound world at level 0 becomes site s
abbrev pub moved : ℕ → List (Ty × World) → List (Ty × World)
moved s hs = map (λ h. (h.0, substitute_world (world s) h.1)) hs

-- A value or a label needs the type of the level at its site, a site must be on the sheet, and a kept continuation must expect
-- what the level expects.
pub data BindingTyped (S : Sheet) (Σ : Entries) : Binding → Context → Context → Type 0 where
  of_value : {v : Value} {A : Ty} {s n : ℕ} {vs cs : List (Ty × World)} → HasValue S Σ v A s →
      BindingTyped S Σ (value v) (record { values = (A, site s) ∷ vs; worlds = n; continuations = cs }) (record { values = vs; worlds = n; continuations = cs })
  of_label : {s l : ℕ} {A : Ty} {n : ℕ} {vs cs : List (Ty × World)} → entry Σ.published s l ≡ some A →
      BindingTyped S Σ (label s l) (record { values = (A, site s) ∷ vs; worlds = n; continuations = cs }) (record { values = vs; worlds = n; continuations = cs })
  of_world : {s n : ℕ} {vs cs : List (Ty × World)} → s < length S →
      BindingTyped S Σ (world s) (record { values = vs; worlds = suc n; continuations = cs }) (record { values = moved s vs; worlds = n; continuations = moved s cs })
  of_continuation : {s c : ℕ} {A : Ty} {n : ℕ} {vs cs : List (Ty × World)} → entry Σ.expected s c ≡ some A →
      BindingTyped S Σ (continuation s c) (record { values = vs; worlds = n; continuations = (A, site s) ∷ cs }) (record { values = vs; worlds = n; continuations = cs })
