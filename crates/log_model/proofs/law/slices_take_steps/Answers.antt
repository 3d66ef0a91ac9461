use Rattle.log_model.proofs.SomeSteps.{slice-steps}
use Rattle.log_model.proofs.law.slices_take_steps.Goals as goal

pub returns : goal.returns
returns c = slice-steps
