use Rattle.std.proofs.Common.{◌+◌, ◌*◌}
use Rattle.set_store.proofs.sets.Sets.+carry.Given as goal

abbrev pub decreases-carry : goal.decreases-carry
decreases-carry l = 2 * l.set + 1

abbrev pub decreases-carry_node : goal.decreases-carry_node
decreases-carry_node l = 2 * l.set
