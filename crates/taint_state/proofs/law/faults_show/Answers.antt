use Rattle.taint_state.proofs.EndsShown.{faults-show}
use Rattle.taint_state.proofs.law.faults_show.Goals as goal

pub returns : goal.returns
returns c = faults-show
