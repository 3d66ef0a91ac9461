use Rattle.std.proofs.Common.{◌≡◌, ◌++◌, map, take}
use Rattle.followed_pairs.specs.States.{item_demand}
use Rattle.followed_pairs.proofs.states.add_items.Given as goal

abbrev pub invariant-loop-item : goal.invariant-loop-item
invariant-loop-item l = l.demands.items ≡ l.initial.demands.items ++ map (item_demand l.byte) (take l.item-index l.items)
