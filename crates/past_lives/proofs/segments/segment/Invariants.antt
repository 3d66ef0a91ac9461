use Rattle.std.proofs.Common.{◌≡◌, ◌-◌}
use Rattle.history_model.specs.Moments.{segment_at}
use Rattle.past_lives.proofs.Until.{held_first}
use Rattle.past_lives.proofs.segments.segment.Given as goal

abbrev pub invariant-loop-back : goal.invariant-loop-back
invariant-loop-back l = segment_at l.entries l.moment l.pid ≡ held_first l.entries l.moment (l.events - l.back) l.holder
