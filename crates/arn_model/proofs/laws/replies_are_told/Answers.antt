use Rattle.arn_model.proofs.TurnReplies.{run-told}
use Rattle.arn_model.proofs.laws.replies_are_told.Goals as goal

pub returns : goal.returns
returns c = run-told
