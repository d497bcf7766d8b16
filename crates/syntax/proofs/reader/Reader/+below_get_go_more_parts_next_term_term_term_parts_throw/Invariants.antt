use Rattle.std.proofs.Common.{◌+◌, ◌-◌, ◌*◌}
use Rattle.syntax.proofs.reader.Reader.+below_get_go_more_parts_next_term_term_term_parts_throw.Given as goal

abbrev pub decreases-below : goal.decreases-below
decreases-below l = 5 * (64 - l.depth) + 4

abbrev pub decreases-get : goal.decreases-get
decreases-get l = 5 * (64 - l.depth) + 4

abbrev pub decreases-go : goal.decreases-go
decreases-go l = 5 * (64 - l.depth) + 4

abbrev pub decreases-term : goal.decreases-term
decreases-term l = 5 * (64 - l.depth) + 2

abbrev pub decreases-term_parts : goal.decreases-term_parts
decreases-term_parts l = 5 * (64 - l.depth) + 1

abbrev pub decreases-throw : goal.decreases-throw
decreases-throw l = 5 * (64 - l.depth) + 4

abbrev pub decreases-next_term : goal.decreases-next_term
decreases-next_term l = 5 * (64 - l.depth) + 3

abbrev pub decreases-more_parts : goal.decreases-more_parts
decreases-more_parts l = 5 * (64 - l.depth)
