use Rattle.std.proofs.Common.{◌≡◌, ℕ, ◌-◌, length, take, ap, ◌∙◌, arith, rules}
use native.Mathlib.Nat.{sub-zero}
use Rattle.machine.specs.Meaning.{cells_of, chains_of}
use Rattle.machine.specs.StandLine.{kept_places, published_places}
use Rattle.machine.proofs.Standing.{kept_total, published_total, kept_few, published_few}
use Rattle.machine.proofs.Sound.{sound}
use Rattle.machine.proofs.parts.State.stand.Goals as goal

pub places_in-kept-requires : goal.places_in-kept-requires
places_in-kept-requires c =
    let s = c.args.self.now in
    let t = s.store in
    let z = sub-zero s.stations in
    let few = (sound c.args.self.now).stations_few in
    let kept = kept_few t.cells.items (length t.frames.items) (s.stations - 0) t.rows (sound c.args.self.now).store_in.rows_in in
    let published = published_few t.cells.items (length t.frames.items) (s.stations - 0) t.rows (sound c.args.self.now).store_in.rows_in in
    record { kept = omega arith; published = omega arith }

pub returns : goal.returns
returns c =
    let s = c.args.self.now in
    let rows = s.store.rows in
    let z : s.stations - 0 ≡ s.stations = sub-zero s.stations in
    let frames : c.len.result ≡ length s.store.frames.items = search rules in
    let kept = c.places_in-kept.ensures.kept ∙ ap (λ (n : ℕ). kept_places (take n rows)) z ∙ kept_total (chains_of s) s.stations rows in
    let published = c.places_in-kept.ensures.published ∙ ap (λ (n : ℕ). published_places (take n rows)) z ∙ published_total (cells_of s) s.stations rows in
    λ i. record { site = s.site; phase = c.work_shown.ensures i; frames = frames i; kept = kept i; published = published i; touched = c.count.ensures i }
