use Rattle.std.proofs.Common.{◌≡◌, ◌++◌}
use Rattle.set_store.specs.Tries.{items_below}
use Rattle.set_store.proofs.node.push_bytes.Given as goal

abbrev pub invariant-loop-byte : goal.invariant-loop-byte
invariant-loop-byte l = l.items.items ≡ l.initial.items.items ++ items_below l.row l.byte
