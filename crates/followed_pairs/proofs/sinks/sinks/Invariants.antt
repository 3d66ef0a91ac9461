use Rattle.std.proofs.Common.{◌↔◌, Contains}
use Rattle.arn_base.specs.declared.records.Pair.{Pair}
use Rattle.lineage_join.specs.Laws.{reaches}
use Rattle.followed_groups.specs.Following.{items_followed}
use Rattle.followed_pairs.specs.Sinks.{IsOutBefore}
use Rattle.followed_pairs.proofs.sinks.sinks.Given as goal

abbrev pub invariant-loop-event : goal.invariant-loop-event
invariant-loop-event l = (pair : Pair) → Contains l.found pair ↔ IsOutBefore (reaches l.entries (items_followed l.followed)) l.entries l.groups l.asked l.event pair
