use Rattle.std.proofs.Common.{◌+◌, ◌-◌, ◌*◌}
use Rattle.syntax.proofs.reader.Reader.+next_type_ty_type_parts.Given as goal

abbrev pub decreases-next_type : goal.decreases-next_type
decreases-next_type l = 3 * (64 - l.depth) + 3

abbrev pub decreases-ty : goal.decreases-ty
decreases-ty l = 3 * (64 - l.depth) + 2

abbrev pub decreases-type_parts : goal.decreases-type_parts
decreases-type_parts l = 3 * (64 - l.depth) + 1
