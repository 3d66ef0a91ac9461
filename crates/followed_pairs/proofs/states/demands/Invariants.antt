use Rattle.std.proofs.Common.{◌≡◌}
use Rattle.followed_pairs.specs.States.{held_demands}
use Rattle.followed_pairs.proofs.states.demands.Given as goal

abbrev pub invariant-loop-byte : goal.invariant-loop-byte
invariant-loop-byte l = l.demands.items ≡ held_demands l.followed l.held l.byte
