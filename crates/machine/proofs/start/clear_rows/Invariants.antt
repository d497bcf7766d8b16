use mathlib.Core.Option.{some}
use Rattle.std.proofs.Common.{◌≡◌, ℕ, ◌<◌, length}
use lib.ListN.{get_elem?}
use Rattle.machine.specs.Start.{NewRow}
use Rattle.machine.specs.declared.parts.SiteRow.{SiteRow}
use Rattle.machine.proofs.start.clear_rows.Given as goal

-- the rows behind are clear
abbrev pub invariant-loop-row : goal.invariant-loop-row
invariant-loop-row l = (length l.rows ≡ 16) × ((k : ℕ) (r : SiteRow) → get_elem? l.rows k ≡ some r → k < l.row-index → NewRow r)
