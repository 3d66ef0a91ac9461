use Rattle.taint_state.proofs.Runs.{runs-show}
use Rattle.taint_state.proofs.law.runs_show.Goals as goal

pub returns : goal.returns
returns c = runs-show
