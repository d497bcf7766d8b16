use Rattle.std.proofs.Common.{arith}
use Rattle.std.proofs.lemmas.List.{drop_more, drop_all}
use Rattle.syntax.proofs.Steps.{go_some, go_none}
use Rattle.syntax.proofs.reader.Reader.end.Goals as goal

pub returns-then-self : goal.returns-then-self
returns-then-self c = λ s. go_some _ _ s _ _ _ (drop_more c.args.self.now.text.now c.args.self.now.place 0 (omega arith))

pub returns : goal.returns
returns c = λ s. go_none _ _ s _ (drop_all c.args.self.now.place c.args.self.now.text.now (omega arith))
