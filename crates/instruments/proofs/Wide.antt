-- What an image shows of the registers of one kind, whose count stands at byte `count` of a site.
use Rattle.std.proofs.Common.{◌≡◌, ℕ, zero, suc, ◌+◌, ◌*◌, ◌/◌, ◌<◌, ◌≤◌, List, length, get_or, Some, None, Option, refl, ap, ◌∙◌, ⊎_elim, arith}
use Rattle.std.specs.Option.{ok_or}
use Rattle.std.proofs.lemmas.List.FromFn.{length-map-range_with_len}
use Rattle.std.proofs.lemmas.Bool.{cases_lt}
use Rattle.lines.specs.declared.refusal.RegisterFault.TheVariants.{Silent}
use Rattle.instruments.specs.Registers.{site_row, heard, asked}
use Rattle.instruments.specs.Indexed.{counted_row, counted_none, counted_fitted}
use Rattle.instruments.specs.Layout.{register, site_shown, shown, Counts}

pub counts_at : (bs : List ℕ) (c : ℕ) → Counts bs 0 → Counts bs 1 → c ≤ 1 → Counts bs c
counts_at bs zero a b h = a
counts_at bs (suc zero) a b h = b
counts_at bs (suc (suc c)) a b h = absurd (omega arith)

pub heard_is : (s n : ℕ) (o : Option ℕ) → heard s n o ≡ ok_or o (Silent s n)
heard_is s n None = refl
heard_is s n (Some v) = refl

module _ (bs : List ℕ) (count bits numbers s : ℕ) where
  row : s < length bs / 140 → site_row (shown bs count bits numbers) s ≡ site_shown bs s count bits numbers
  row h = counted_row (λ t. site_shown bs t count bits numbers) (length bs / 140) s h

  pub shown_width : s < length bs / 140 → length (site_row (shown bs count bits numbers) s) ≡ get_or bs (140 * s + count) 0
  shown_width h = ap length (row h) ∙ length-map-range_with_len (register bs s bits numbers) 0 (get_or bs (140 * s + count) 0)

  pub shown_past : length bs / 140 ≤ s → length (site_row (shown bs count bits numbers) s) ≡ 0
  shown_past h = ap length (counted_none (λ t. site_shown bs t count bits numbers) (length bs / 140) s h)

  -- where a register is fitted
  pub shown_stands : (n : ℕ) → n < length (site_row (shown bs count bits numbers) s) → (s < length bs / 140) × (n < get_or bs (140 * s + count) 0)
  shown_stands n h = ⊎_elim (λ (a : s < length bs / 140). (a, omega (arith, shown_width a))) (λ (a : length bs / 140 ≤ s). absurd (omega (arith, shown_past a))) (cases_lt s (length bs / 140))

  pub shown_asked : (n : ℕ) → n < length (site_row (shown bs count bits numbers) s) → asked (shown bs count bits numbers) s n ≡ heard s n (register bs s bits numbers n)
  shown_asked n h = let p = shown_stands n h in rw (row p.0) (counted_fitted (register bs s bits numbers) (get_or bs (140 * s + count) 0) s n p.1)

pub ruleset at_kinds = (counts_at, heard_is, shown_width, shown_past, shown_stands, shown_asked, length-map-range_with_len)
