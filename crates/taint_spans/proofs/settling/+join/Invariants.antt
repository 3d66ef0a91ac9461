use Rattle.taint_spans.proofs.settling.+join.Given as goal

abbrev pub decreases-join : goal.decreases-join
decreases-join l = l.len
