use Rattle.std.proofs.Common.{◌≡◌}
use Rattle.followed_pairs.specs.Demands.{byte_demands}
use Rattle.followed_pairs.proofs.events.demands.Given as goal

abbrev pub invariant-loop-byte : goal.invariant-loop-byte
invariant-loop-byte l = l.demands.items ≡ byte_demands l.event l.from l.byte
