use Rattle.arn_model.proofs.StepsTell.{steps-tell}
use Rattle.arn_model.proofs.laws.steps_tell.Goals as goal

pub returns : goal.returns
returns c = steps-tell
