use Rattle.set_store.proofs.sets.Sets.+contains.Given as goal

abbrev pub decreases-contains : goal.decreases-contains
decreases-contains l = l.set
