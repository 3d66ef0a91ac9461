use Rattle.std.proofs.Common.{◌≡◌, take}
use Rattle.query_model.specs.Names.{writers}
use Rattle.followed_pairs.proofs.names.writers.Given as goal

abbrev pub invariant-loop-byte : goal.invariant-loop-byte
invariant-loop-byte l = l.groups.items ≡ writers l._entries (take l.byte-index l.bytes)
