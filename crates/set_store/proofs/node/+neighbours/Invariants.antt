use Rattle.set_store.proofs.node.+neighbours.Given as goal

abbrev pub decreases-neighbours : goal.decreases-neighbours
decreases-neighbours l = l.len
