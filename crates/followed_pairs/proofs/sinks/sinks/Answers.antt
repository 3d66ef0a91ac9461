use Rattle.std.proofs.Common.{ℕ, List, Contains, ◌↔◌}
use Rattle.arn_base.specs.declared.records.Pair.{Pair}
use Rattle.lineage_join.specs.Laws.{reaches}
use Rattle.followed_groups.specs.Following.{items_followed}
use Rattle.followed_pairs.specs.Sinks.{IsOutBefore, IsOutPair}
use Rattle.followed_pairs.proofs.Taking.{at-end, before-more}
use Rattle.followed_pairs.proofs.sinks.sinks.Goals as goal

pub loop-event-preserved : goal.loop-event-preserved
loop-event-preserved c =
    before-more (IsOutPair (reaches c.args.entries.now (items_followed c.args.followed.now)) c.args.entries.now c.args.groups.now c.args.asked) c.loop-event.event c.loop-event.found c.add_event.new.found c.loop-event.invariant c.in_ok-add_event.ensures

pub returns : goal.returns
returns c =
    at-end (λ (n : ℕ) (ps : List Pair). (pair : Pair) → Contains ps pair ↔ IsOutBefore (reaches c.args.entries.now (items_followed c.args.followed.now)) c.args.entries.now c.args.groups.now c.args.asked n pair) c.loop-event.found
    c.loop-event.event c.events-event-end.result _ c.loop-event-test.false c.loop-event.auto.event-end (c.events-event-end.ensures c.args.entries.now c.requires.indexed) c.loop-event.invariant
