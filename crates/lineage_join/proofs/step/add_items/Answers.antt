use Rattle.std.proofs.Common.{arith}
use Rattle.history_model.specs.Events.{event_at}
use Rattle.lineage_join.specs.Laws.{reaches}
use Rattle.lineage_join.specs.Waits.{from_wait, wait_of}
use Rattle.lineage_join.proofs.Comes.{push-also, all-also}
use Rattle.lineage_join.proofs.step.add_items.Goals as goal

pub loop-item-preserved : goal.loop-item-preserved
loop-item-preserved c = record {
  has = λ items fit. push-also (from_wait (event_at c.args.entries.now) (reaches c.args.entries.now items)) c.args.waiting.now c.args.found.now (wait_of (event_at c.args.entries.now) c.args.byte) c.args.items.now c.loop-item.item-index _
      c.loop-item.waiting c.add_item.new.waiting c.loop-item.found c.add_item.new.found c.loop-item-test.true (c.loop-item.invariant.has items fit) (c.in_ok-add_item.ensures.ok items fit);
  numbered = c.in_ok-add_item.ensures.numbered;
}

pub returns-clause-ok : goal.returns-clause-ok
returns-clause-ok c = λ items fit. all-also (from_wait (event_at c.args.entries.now) (reaches c.args.entries.now items)) c.args.waiting.now c.args.found.now (wait_of (event_at c.args.entries.now) c.args.byte) c.args.items.now c.loop-item.item-index
    c.loop-item.waiting c.loop-item.found (omega arith) (c.loop-item.invariant.has items fit)
