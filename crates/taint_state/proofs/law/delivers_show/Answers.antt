use Rattle.taint_state.proofs.Calls.{delivers-show}
use Rattle.taint_state.proofs.law.delivers_show.Goals as goal

pub returns : goal.returns
returns c = delivers-show
