use Rattle.std.proofs.Common.{◌≡◌, ◌-◌, ◌/◌, length}
use Rattle.instruments.specs.Accepted.{bad_from}
use Rattle.instruments.proofs.makes.first_bad.Given as goal

abbrev pub invariant-loop-site : goal.invariant-loop-site
invariant-loop-site l = bad_from l.bytes l.site (length l.bytes / 140 - l.site) ≡ bad_from l.bytes 0 (length l.bytes / 140)
