use Rattle.set_store.proofs.sets.Sets.+push_members.Given as goal

abbrev pub decreases-push_members : goal.decreases-push_members
decreases-push_members l = l.set
