use Rattle.taint_state.proofs.LensShown.{acts-have-len}
use Rattle.taint_state.proofs.law.acts_have_len.Goals as goal

pub returns : goal.returns
returns c = acts-have-len
