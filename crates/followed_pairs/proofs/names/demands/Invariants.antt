use Rattle.std.proofs.Common.{◌≡◌, take}
use Rattle.followed_pairs.specs.Names.{writer_demands}
use Rattle.followed_pairs.proofs.names.demands.Given as goal

abbrev pub invariant-loop-place : goal.invariant-loop-place
invariant-loop-place l = l.demands.items ≡ writer_demands 0 (take l.place l.bytes)
