use Rattle.followed_pairs.specs.Copies.{AreTakers}
use Rattle.followed_pairs.proofs.copies.takers.Given as goal

abbrev pub invariant-loop-event : goal.invariant-loop-event
invariant-loop-event l = AreTakers l.entries l.asked l.event l.groups
