use Rattle.std.proofs.Common.{◌+◌, ◌*◌}
use Rattle.machine.proofs.Walks.{place}
use Rattle.machine.proofs.Writers.{depth, reach}
use Rattle.machine.proofs.values.Cells.+put_bindings_put_bound_put_closure_put_pair_put_value.Given as goal

abbrev pub decreases-put_bindings : goal.decreases-put_bindings
decreases-put_bindings l = 4 * place l.environment

abbrev pub decreases-put_bound : goal.decreases-put_bound
decreases-put_bound l = 4 * reach l.bound + 3

abbrev pub decreases-put_closure : goal.decreases-put_closure
decreases-put_closure l = 4 * place l.environment + 1

abbrev pub decreases-put_pair : goal.decreases-put_pair
decreases-put_pair l = 4 * (l.place + 1) + 1

abbrev pub decreases-put_value : goal.decreases-put_value
decreases-put_value l = 4 * depth l.value + 2
