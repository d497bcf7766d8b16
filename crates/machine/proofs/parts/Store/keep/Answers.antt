use Rattle.machine.proofs.Rows.{takes_kept}
use Rattle.machine.proofs.parts.Store.keep.Goals as goal

pub returns : goal.returns
returns c = takes_kept c.args.self.now c.args.site c.index-self-site.result c.requires c.args.continuation _ c.add.result c.add.ensures
