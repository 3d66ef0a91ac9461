use Rattle.taint_state.specs.Shown.{Tracking}
use Rattle.taint_laws.proofs.Told.{told-shows}
use Rattle.taint_laws.proofs.law.told_shows.Goals as goal

pub returns : goal.returns
returns c = told-shows (λ (x : Tracking). x) c.stays_apart.ensures
