-- Counts, levels and the registers of a sheet.
use Rattle.std.proofs.Common.{◌≡◌, ℕ, zero, suc, ◌+◌, ◌-◌, ◌<◌, ◌≤◌, List, [], ◌∷◌, Some, None, sym, refl, ap, ◌∙◌, arith}
use Rattle.std.specs.List.{slice_get}
use Rattle.lines.specs.declared.refusal.Instrument.{Instrument}
use Rattle.lines.specs.declared.refusal.Instrument.TheVariants.{Gauge, Gate}
use Rattle.instruments.specs.declared.sheet.Station.{Station}
use Rattle.calculus.specs.Types.{gauges_there, gates_there}
use Rattle.calculus.specs.Program.{raise, level_or, level}
use Rattle.checker.specs.Lookups.{registers_there}

-- the registers of a site by its station
pub gauges_some : (S : List Station) (s : ℕ) (x : Station) → slice_get S s ≡ Some x → x.gauges ≡ gauges_there S s
gauges_some [] s x e = let z : ◌≡◌ {A = ℕ} 0 1 = cc in absurd (omega arith)
gauges_some (y ∷ S) zero x e = let q : y ≡ x = cc in ap (λ (h : Station). h.gauges) (sym q)
gauges_some (y ∷ S) (suc s) x e = gauges_some S s x e

pub gates_some : (S : List Station) (s : ℕ) (x : Station) → slice_get S s ≡ Some x → x.gates ≡ gates_there S s
gates_some [] s x e = let z : ◌≡◌ {A = ℕ} 0 1 = cc in absurd (omega arith)
gates_some (y ∷ S) zero x e = let q : y ≡ x = cc in ap (λ (h : Station). h.gates) (sym q)
gates_some (y ∷ S) (suc s) x e = gates_some S s x e

pub none_there : (kind : Instrument) (S : List Station) (s : ℕ) → slice_get S s ≡ None → 0 ≡ registers_there kind S s
none_there Gauge [] s e = refl
none_there Gauge (y ∷ S) zero e = let z : ◌≡◌ {A = ℕ} 0 1 = cc in absurd (omega arith)
none_there Gauge (y ∷ S) (suc s) e = none_there Gauge S s e
none_there Gate [] s e = refl
none_there Gate (y ∷ S) zero e = let z : ◌≡◌ {A = ℕ} 0 1 = cc in absurd (omega arith)
none_there Gate (y ∷ S) (suc s) e = none_there Gate S s e

raised : (n j : ℕ) → raise n j ≡ n + j
raised zero j = omega arith
raised (suc n) j = raised n (suc j) ∙ omega arith

-- the level of a bound count, and that of one that is not bound
level_or_in : (n i b : ℕ) → i < n → level_or n i b ≡ n - 1 - i
level_or_in zero i b h = absurd (omega arith)
level_or_in (suc n) zero b h = raised n 0 ∙ omega arith
level_or_in (suc n) (suc i) b h = level_or_in n i b (omega arith) ∙ omega arith

level_or_out : (n i b : ℕ) → n ≤ i → level_or n i b ≡ b
level_or_out zero i b h = refl
level_or_out (suc n) zero b h = absurd (omega arith)
level_or_out (suc n) (suc i) b h = level_or_out n i b (omega arith)

pub level_in : (n i : ℕ) → i < n → level n i ≡ n - 1 - i
level_in n i h = level_or_in n i (raise n 0) h

pub level_out : (n i : ℕ) → n ≤ i → level n i ≡ n
level_out n i h = level_or_out n i (raise n 0) h ∙ raised n 0 ∙ omega arith
