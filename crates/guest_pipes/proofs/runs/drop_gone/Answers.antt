use Rattle.std.proofs.Common.{◌∙◌}
use Rattle.guest_pipes.proofs.Cuts.{popped}
use Rattle.guest_pipes.proofs.runs.drop_gone.Goals as goal

pub loop-runs-preserved : goal.loop-runs-preserved
loop-runs-preserved c =
    let left =
    popped c.loop-runs.runs.items c.pop_front.new.self.items c.index.result.now c.index-in-loop-runs.result.now c.loop-runs.gone c.pop_front.ensures.rest c.index.ensures c.index-in-loop-runs.ensures c.if-index-gone.true c.loop-runs.invariant.1 c.loop-runs.invariant.2 in
    (left.0 ∙ c.loop-runs.invariant.0, left.1, left.2)
