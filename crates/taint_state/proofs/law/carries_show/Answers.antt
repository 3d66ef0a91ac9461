use Rattle.taint_state.proofs.Carrying.{carries-show}
use Rattle.taint_state.proofs.law.carries_show.Goals as goal

pub returns : goal.returns
returns c = carries-show
