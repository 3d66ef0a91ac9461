use Rattle.taint_state.proofs.StartingShown.{starts-show}
use Rattle.taint_state.proofs.law.starts_show.Goals as goal

pub returns : goal.returns
returns c = starts-show
