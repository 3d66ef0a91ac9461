use Rattle.taint_state.specs.Kept.{shown}
use Rattle.taint_laws.proofs.Told.{told-holds}
use Rattle.taint_laws.proofs.law.told_holds.Goals as goal

pub returns : goal.returns
returns c = told-holds shown c.stays_apart.ensures
