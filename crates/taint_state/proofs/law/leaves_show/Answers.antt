use Rattle.taint_state.proofs.Calls.{leaves-show}
use Rattle.taint_state.proofs.law.leaves_show.Goals as goal

pub returns : goal.returns
returns c = leaves-show
