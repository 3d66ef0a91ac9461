use Rattle.std.proofs.Common.{◌≡◌, filter, is_some, take}
use Rattle.parts_model.specs.Numbered.{nth}
use Rattle.replayer.proofs.state.living.Given as goal

abbrev pub invariant-loop-pid : goal.invariant-loop-pid
invariant-loop-pid l = l.live.items ≡ filter (λ p. is_some (nth l.bodies p)) (take l.pid-index l.members)
