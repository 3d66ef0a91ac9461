use Rattle.taint_spans.proofs.settling.+push_members.Given as goal

abbrev pub decreases-push_members : goal.decreases-push_members
decreases-push_members l = l.len
