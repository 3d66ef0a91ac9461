use Rattle.taint_state.proofs.Forking.{forks-show}
use Rattle.taint_state.proofs.law.forks_show.Goals as goal

pub returns : goal.returns
returns c = forks-show
