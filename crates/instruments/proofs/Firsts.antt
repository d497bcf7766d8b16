-- The first row of a gauge, as a search finds it.
use Rattle.std.proofs.Common.{◌≡◌, ℕ, Bool, true, false, cond, ◌&&◌, List, [], ◌∷◌, Some, Option, refl, eqb}
use Rattle.std.specs.Prelude.{find}
use Rattle.std.specs.Option.{option_map}
use Rattle.instruments.specs.declared.record.Row.{Row}
use Rattle.instruments.specs.Records.{first}
use Rattle.instruments.specs.Grid.{recorded_length, recorded_width, recorded_past, recorded_asked, recorded_wide, recorded_none}

hit : (a b : Bool) (r : Row) (o : Option Row) (p : Option ℕ) → option_map (λ (q : Row). q.number) o ≡ p → option_map (λ (q : Row). q.number) (cond (a && b) (Some r) o) ≡ cond a (cond b (Some r.number) p) p
hit true true r o p e = refl
hit true false r o p e = e
hit false b r o p e = e

pub first_is : (rows : List Row) (s g : ℕ) → option_map (λ (r : Row). r.number) (find (λ (r : Row). eqb r.site s && eqb r.gauge g) rows) ≡ first rows s g
first_is [] s g = refl
first_is (r ∷ rs) s g = hit (eqb r.site s) (eqb r.gauge g) r (find (λ (q : Row). eqb q.site s && eqb q.gauge g) rs) (first rs s g) (first_is rs s g)

pub ruleset at_rows = (recorded_length, recorded_width, recorded_past, recorded_wide, recorded_none)
