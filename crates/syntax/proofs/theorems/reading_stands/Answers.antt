use Rattle.syntax.proofs.Exact.{read_right, read_all, read_one, restored, limit_right}
use Rattle.syntax.proofs.Numbered.{read_sound}
use Rattle.syntax.proofs.Heights.{read_low}
use Rattle.syntax.proofs.Sizes.{read_tree}
use Rattle.syntax.proofs.Order.{refused_exactly, accepted_exactly, answered}
use Rattle.syntax.proofs.Same.{one_count}
use Rattle.syntax.proofs.theorems.reading_stands.Goals as goal

pub returns : goal.returns
returns c = record {
  right = read_right;
  all = read_all;
  one = read_one;
  restored = restored;
  sound = read_sound;
  low = read_low;
  tree = read_tree;
  refused = refused_exactly;
  accepted = accepted_exactly;
  answered = answered;
  count = one_count;
  limit = limit_right;
}
