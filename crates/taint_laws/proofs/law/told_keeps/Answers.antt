use Rattle.taint_state.specs.Kept.{shown}
use Rattle.taint_laws.proofs.Told.{told-shows}
use Rattle.taint_laws.proofs.law.told_keeps.Goals as goal

pub returns : goal.returns
returns c = told-shows shown c.stays_apart.ensures
