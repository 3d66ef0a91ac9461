use Rattle.taint_state.proofs.Segments.{shares-show}
use Rattle.taint_state.proofs.law.shares_show.Goals as goal

pub returns : goal.returns
returns c = shares-show
