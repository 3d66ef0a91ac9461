use Rattle.std.proofs.Common.{◌∙◌}
use Rattle.followed_pairs.proofs.Pairs.{demand-more}
use Rattle.followed_pairs.proofs.events.demands.Goals as goal

pub loop-byte-preserved : goal.loop-byte-preserved
loop-byte-preserved c =
    c.in_ok-push.ensures.items
    ∙ demand-more c.args.event c.args.from c.loop-byte.byte c.from.result c.from-in-loop-byte.result c.loop-byte.demands.items c.loop-byte.invariant c.from.ensures c.from-in-loop-byte.ensures
