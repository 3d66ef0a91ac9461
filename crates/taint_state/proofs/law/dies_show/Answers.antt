use Rattle.taint_state.proofs.EndsShown.{dies-show}
use Rattle.taint_state.proofs.law.dies_show.Goals as goal

pub returns : goal.returns
returns c = dies-show
