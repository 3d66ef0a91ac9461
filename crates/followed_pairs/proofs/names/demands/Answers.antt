use Rattle.followed_pairs.proofs.Wrote.{demands-step}
use Rattle.followed_pairs.proofs.names.demands.Goals as goal

pub loop-place-preserved : goal.loop-place-preserved
loop-place-preserved c =
    demands-step c.args.bytes.now c.loop-place.place _ c.loop-place.demands.items c.push.new.self.items c.from.result c.loop-place-test.true c.loop-place.invariant c.from.ensures c.in_ok-push.ensures.items
