use Rattle.std.proofs.Common.{get_or, ap, ◌∙◌}
use Rattle.machine.specs.Store.{reads}
use Rattle.machine.proofs.Growth.{elem_getD, elem_get}
use Rattle.machine.proofs.parts.Store.published.Goals as goal

pub returns : goal.returns
returns c = (get_or c.args.self.now.rows c.args.site c.index-self-site.result, elem_getD _ _ _ c.requires, ap reads c.get.ensures ∙ elem_get (get_or c.args.self.now.rows c.args.site c.index-self-site.result).published.items c.args.label)
