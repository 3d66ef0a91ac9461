use Rattle.followed_pairs.proofs.Outward.{AddsTurned}
use Rattle.followed_pairs.proofs.sinks.add_all.Given as goal

abbrev pub invariant-loop-pair : goal.invariant-loop-pair
invariant-loop-pair l = AddsTurned l.asked l.sink l.reached l.pair-index l.initial.found l.found
