use Rattle.conformance.proofs.texts.+put_tree.Given as goal

abbrev pub decreases-put-tree : goal.decreases-put-tree
decreases-put-tree l = l.depth
