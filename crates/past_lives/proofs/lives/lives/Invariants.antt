use Rattle.std.proofs.Common.{◌≡◌, ◌-◌}
use Rattle.history_model.specs.Moments.{lives_at}
use Rattle.past_lives.proofs.Until.{lives_first}
use Rattle.past_lives.proofs.lives.lives.Given as goal

abbrev pub invariant-loop-back : goal.invariant-loop-back
invariant-loop-back l = lives_at l.entries l.moment l.pid ≡ lives_first l.entries l.moment l.pid (l.events - l.back)
