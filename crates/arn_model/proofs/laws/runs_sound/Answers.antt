use Rattle.arn_model.proofs.StepsTell.{runs-sound}
use Rattle.arn_model.proofs.laws.runs_sound.Goals as goal

pub returns : goal.returns
returns c = runs-sound
