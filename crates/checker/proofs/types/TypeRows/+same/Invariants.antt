use Rattle.std.proofs.Common.{◌-◌}
use Rattle.checker.proofs.types.TypeRows.+same.Given as goal

abbrev pub decreases-same : goal.decreases-same
decreases-same l = l.self.now.written - l.b
