use Rattle.arn_model.proofs.RunLemmas.{runs-append}
use Rattle.arn_model.proofs.laws.runs_append.Goals as goal

pub returns : goal.returns
returns c = runs-append
