use Rattle.std.proofs.Common.{take, map, All}
use Rattle.history_model.specs.Events.{event_at}
use Rattle.lineage_join.specs.Added.{HasAdded}
use Rattle.lineage_join.specs.Waits.{IsNumbered, wait_of}
use Rattle.lineage_join.proofs.step.add_items.Given as goal

abbrev pub invariant-loop-item : goal.invariant-loop-item
invariant-loop-item l = record {
  has : HasAdded l.entries l.initial.waiting l.initial.found (map (wait_of (event_at l.entries) l.byte) (take l.item-index l.items)) l.waiting l.found;
  numbered : All IsNumbered l.waiting;
}
