use Rattle.taint_state.proofs.BeginningShown.{begins-show}
use Rattle.taint_state.proofs.law.begins_show.Goals as goal

pub returns : goal.returns
returns c = begins-show
