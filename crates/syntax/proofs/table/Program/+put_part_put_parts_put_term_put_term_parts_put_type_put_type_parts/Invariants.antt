use Rattle.std.proofs.Common.{◌+◌, ◌*◌, length}
use Rattle.syntax.proofs.table.Program.+put_part_put_parts_put_term_put_term_parts_put_type_put_type_parts.Given as goal

abbrev pub decreases-put_part : goal.decreases-put_part
decreases-put_part l = 8 * l.left + 1

abbrev pub decreases-put_parts : goal.decreases-put_parts
decreases-put_parts l = 8 * l.left + 1 + length l.parts.now

abbrev pub decreases-put_term : goal.decreases-put_term
decreases-put_term l = 8 * l.left

abbrev pub decreases-put_term_parts : goal.decreases-put_term_parts
decreases-put_term_parts l = 8 * l.left + 7

abbrev pub decreases-put_type : goal.decreases-put_type
decreases-put_type l = 8 * l.left

abbrev pub decreases-put_type_parts : goal.decreases-put_type_parts
decreases-put_type_parts l = 8 * l.left + 7
