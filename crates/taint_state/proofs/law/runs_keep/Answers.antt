use Rattle.taint_state.proofs.Keeps.{runs-keep}
use Rattle.taint_state.proofs.law.runs_keep.Goals as goal

pub returns : goal.returns
returns c = runs-keep
