use Rattle.std.proofs.Common.{take, map, All}
use Rattle.history_model.specs.Events.{event_at}
use Rattle.lineage_join.specs.Added.{HasAdded}
use Rattle.lineage_join.specs.Waits.{IsNumbered, demanded}
use Rattle.lineage_join.proofs.pairs.add_demands.Given as goal

abbrev pub invariant-loop-demand : goal.invariant-loop-demand
invariant-loop-demand l = record {
  has : HasAdded l.entries l.initial.waiting l.initial.found (map (demanded (event_at l.entries)) (take l.demand-index l.demands)) l.waiting l.found;
  numbered : All IsNumbered l.waiting;
}
