use Rattle.std.proofs.Common.{◌+◌, ◌*◌, max}
use Rattle.checker.proofs.Lower.{height}
use Rattle.checker.proofs.types.TypeRows.+put_put_one_put_two.Given as goal

abbrev pub decreases-put : goal.decreases-put
decreases-put l = 2 * height l.self.now.written l.number

abbrev pub decreases-put_one : goal.decreases-put_one
decreases-put_one l = 2 * height l.self.now.written l.part + 1

abbrev pub decreases-put_two : goal.decreases-put_two
decreases-put_two l = 2 * max (height l.self.now.written l.left) (height l.self.now.written l.right) + 1
