use Rattle.machine.proofs.Rows.{takes_published}
use Rattle.machine.proofs.parts.Store.publish.Goals as goal

pub returns : goal.returns
returns c = takes_published c.args.self.now c.args.site c.index-self-site.result c.requires c.args.value _ c.add.result c.add.ensures
