use Rattle.taint_state.specs.Kept.{shown}
use Rattle.taint_laws.proofs.Told.{told-hears}
use Rattle.taint_laws.proofs.law.told_hears.Goals as goal

pub returns : goal.returns
returns c = told-hears shown c.stays_apart.ensures
