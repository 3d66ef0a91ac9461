use Rattle.followed_pairs.specs.Copies.{AreTakers, Takes}
use Rattle.followed_pairs.proofs.Taking.{at-end, before-more}
use Rattle.followed_pairs.proofs.copies.takers.Goals as goal

pub loop-event-preserved : goal.loop-event-preserved
loop-event-preserved c =
    before-more (Takes c.args.entries.now c.args.asked) c.loop-event.event c.loop-event.groups c.push_taker.new.groups c.loop-event.invariant c.in_ok-push_taker.ensures

pub returns : goal.returns
returns c =
    at-end (AreTakers c.args.entries.now c.args.asked) c.loop-event.groups c.loop-event.event c.events-event-end.result _ c.loop-event-test.false c.loop-event.auto.event-end (c.events-event-end.ensures c.args.entries.now c.requires) c.loop-event.invariant
