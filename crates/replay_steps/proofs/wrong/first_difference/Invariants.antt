use Rattle.std.proofs.Common.{◌≡◌, drop}
use Rattle.acts_model.specs.Disagreement.{first_difference}
use Rattle.replay_steps.proofs.wrong.first_difference.Given as goal

abbrev pub invariant-loop-place : goal.invariant-loop-place
invariant-loop-place l = first_difference l.said l.found ≡ first_difference (drop l.place l.said) (drop l.place l.found)
