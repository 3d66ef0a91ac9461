use Rattle.taint_state.proofs.EndsShown.{exits-show}
use Rattle.taint_state.proofs.law.exits_show.Goals as goal

pub returns : goal.returns
returns c = exits-show
