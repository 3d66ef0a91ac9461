use Rattle.taint_state.proofs.Forking.{founds-show}
use Rattle.taint_state.proofs.law.founds_show.Goals as goal

pub returns : goal.returns
returns c = founds-show
