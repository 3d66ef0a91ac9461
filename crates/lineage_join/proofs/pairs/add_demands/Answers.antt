use Rattle.std.proofs.Common.{arith}
use Rattle.history_model.specs.Events.{event_at}
use Rattle.lineage_join.specs.Laws.{reaches}
use Rattle.lineage_join.specs.Waits.{demanded, from_wait}
use Rattle.lineage_join.proofs.Comes.{push-also, all-also}
use Rattle.lineage_join.proofs.pairs.add_demands.Goals as goal

pub loop-demand-preserved : goal.loop-demand-preserved
loop-demand-preserved c = record {
  has = λ items fit. push-also (from_wait (event_at c.args.entries.now) (reaches c.args.entries.now items)) c.args.waiting.now c.args.found.now (demanded (event_at c.args.entries.now)) c.args.demands.now c.loop-demand.demand-index _
      c.loop-demand.waiting c.add_demand.new.waiting c.loop-demand.found c.add_demand.new.found c.loop-demand-test.true (c.loop-demand.invariant.has items fit) (c.in_ok-add_demand.ensures.ok items fit);
  numbered = c.in_ok-add_demand.ensures.numbered;
}

pub returns-clause-ok : goal.returns-clause-ok
returns-clause-ok c = λ items fit. all-also (from_wait (event_at c.args.entries.now) (reaches c.args.entries.now items)) c.args.waiting.now c.args.found.now (demanded (event_at c.args.entries.now)) c.args.demands.now c.loop-demand.demand-index
    c.loop-demand.waiting c.loop-demand.found (omega arith) (c.loop-demand.invariant.has items fit)
