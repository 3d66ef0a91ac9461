use Rattle.std.proofs.Common.{◌+◌, ◌*◌}
use Rattle.set_store.proofs.sets.Sets.+union.Given as goal

abbrev pub decreases-union : goal.decreases-union
decreases-union l = 5 * (l.a + l.b) + 4

abbrev pub decreases-united : goal.decreases-united
decreases-united l = 5 * (l.pair.0 + l.pair.1) + 3

abbrev pub decreases-found : goal.decreases-found
decreases-found l = 5 * (l.pair.0 + l.pair.1) + 2

abbrev pub decreases-made : goal.decreases-made
decreases-made l = 5 * (l.pair.0 + l.pair.1) + 1

abbrev pub decreases-parted : goal.decreases-parted
decreases-parted l = 5 * (l.pair.0 + l.pair.1)
