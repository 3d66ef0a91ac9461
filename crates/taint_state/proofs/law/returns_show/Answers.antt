use Rattle.taint_state.proofs.Calls.{returns-show}
use Rattle.taint_state.proofs.law.returns_show.Goals as goal

pub returns : goal.returns
returns c = returns-show
