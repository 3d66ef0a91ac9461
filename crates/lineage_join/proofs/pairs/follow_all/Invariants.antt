use Rattle.std.proofs.Common.{◌↔◌, All}
use Rattle.arn_base.specs.declared.records.Pair.{Pair}
use Rattle.history_model.specs.Events.{event_at}
use Rattle.lineage_join.specs.Laws.{reaches}
use Rattle.lineage_join.specs.Waits.{Comes, IsNumbered, from_wait, room}
use Rattle.lineage_join.proofs.pairs.follow_all.Given as goal

abbrev pub invariant-loop-wait : goal.invariant-loop-wait
invariant-loop-wait g l = record {
  comes : (p : Pair) → Comes (from_wait (event_at l.entries) (reaches l.entries (g.P.Locals.items l.locals))) l.waiting l.found p ↔ Comes (from_wait (event_at l.entries) (reaches l.entries (g.P.Locals.items l.locals))) l.initial.waiting l.initial.found p;
  numbered : All IsNumbered l.waiting;
}

abbrev pub decreases-loop-wait : goal.decreases-loop-wait
decreases-loop-wait g l = room l.waiting
