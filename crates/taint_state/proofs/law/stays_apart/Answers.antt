use Rattle.taint_state.proofs.Lying.{stays-apart}
use Rattle.taint_state.proofs.law.stays_apart.Goals as goal

pub returns : goal.returns
returns c = stays-apart
