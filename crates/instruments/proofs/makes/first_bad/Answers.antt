use Rattle.std.proofs.Common.{rules}
use Rattle.instruments.proofs.Bads.{bad_miss}
use Rattle.instruments.proofs.makes.first_bad.Goals as goal

pub loop-site-preserved : goal.loop-site-preserved
loop-site-preserved c = search (rules, bad_miss)
