-- Where a machine stands: the places that its sites take, and what it is doing.
use Rattle.std.proofs.Common.{◌≡◌, ℕ, zero, suc, ◌*◌, ◌≤◌, List, [], ◌∷◌, map, length, take, refl, arith}
use lib.ListN.{length-map}
use Rattle.std.proofs.lemmas.List.Sums.{sum_by-cons}
use Rattle.calculus.specs.Machine
use Rattle.calculus.specs.Run.{total}
use Rattle.machine.specs.Meaning.{Meaning, published_of, kept_of, continuation_of, value_of}
use Rattle.machine.specs.Sound.{Each, RowIn}
use Rattle.machine.specs.StandLine.{kept_places, published_places}
use Rattle.machine.specs.declared.parts.Cell.{Cell}
use Rattle.machine.specs.declared.parts.SiteRow.{SiteRow}

-- the tables that the rows stand for have as many entries
pub kept_total : (ks : List Machine.Continuation) (n : ℕ) (rows : List SiteRow) → kept_places (take n rows) ≡ total (take n (map (kept_of ks) rows))
kept_total ks zero rows = refl
kept_total ks (suc n) [] = refl
kept_total ks (suc n) (r ∷ rows) = let c = sum_by-cons (λ (x : SiteRow). length x.kept.items) r (take n rows) in let e = length-map r.kept.items (continuation_of ks) in let t = kept_total ks n rows in omega arith

pub published_total : (ms : List Meaning) (n : ℕ) (rows : List SiteRow) → published_places (take n rows) ≡ total (take n (map (published_of ms) rows))
published_total ms zero rows = refl
published_total ms (suc n) [] = refl
published_total ms (suc n) (r ∷ rows) = let c = sum_by-cons (λ (x : SiteRow). length x.published.items) r (take n rows) in let e = length-map r.published.items (value_of ms) in let t = published_total ms n rows in omega arith

-- rows within their limits take few places
pub kept_few : (cs : List Cell) (m n : ℕ) (rows : List SiteRow) → Each (λ _ r. RowIn cs m r) rows → kept_places (take n rows) ≤ 256 * n
kept_few cs m zero rows h = omega arith
kept_few cs m (suc n) [] h = omega arith
kept_few cs m (suc n) (r ∷ rows) h = let c = sum_by-cons (λ (y : SiteRow). length y.kept.items) r (take n rows) in let x = (h 0 r refl).kept_few in let y = kept_few cs m n rows (λ i. h (suc i)) in omega arith

pub published_few : (cs : List Cell) (m n : ℕ) (rows : List SiteRow) → Each (λ _ r. RowIn cs m r) rows → published_places (take n rows) ≤ 128 * n
published_few cs m zero rows h = omega arith
published_few cs m (suc n) [] h = omega arith
published_few cs m (suc n) (r ∷ rows) h = let c = sum_by-cons (λ (y : SiteRow). length y.published.items) r (take n rows) in let x = (h 0 r refl).published_few in let y = published_few cs m n rows (λ i. h (suc i)) in omega arith
