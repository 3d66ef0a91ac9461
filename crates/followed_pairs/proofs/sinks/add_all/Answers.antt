use Rattle.followed_pairs.proofs.Outward.{one-added, some-added}
use Rattle.followed_pairs.proofs.sinks.add_all.Goals as goal

pub loop-pair-preserved : goal.loop-pair-preserved
loop-pair-preserved c =
    one-added c.args.asked c.args.sink c.args.reached.now c.loop-pair.pair-index _ c.args.found.now c.loop-pair.found c.add_reached.new.found c.loop-pair-test.true c.loop-pair.invariant c.in_ok-add_reached.ensures

pub returns : goal.returns
returns c = some-added c.args.asked c.args.sink c.args.reached.now c.loop-pair.pair-index c.args.found.now c.loop-pair.found c.loop-pair-test.false c.loop-pair.invariant
