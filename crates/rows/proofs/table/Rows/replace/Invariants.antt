use Rattle.std.proofs.Common.{◌≡◌, ◌≤◌, take, vec_items, vec_capacity}
use Rattle.rows.proofs.table.Rows.replace.Given as goal

abbrev pub invariant-loop-row : goal.invariant-loop-row
invariant-loop-row g l = (vec_items l.self-inside.rows ≡ take l.row-index l.rows) × (g.row.N ≤ vec_capacity l.self-inside.rows)
