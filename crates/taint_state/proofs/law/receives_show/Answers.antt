use Rattle.taint_state.proofs.Received.{receives-show}
use Rattle.taint_state.proofs.law.receives_show.Goals as goal

pub returns : goal.returns
returns c = receives-show
