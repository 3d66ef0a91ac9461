use Rattle.taint_laws.proofs.Hears.{hears-events}
use Rattle.taint_laws.proofs.law.hears_events.Goals as goal

pub returns : goal.returns
returns c = hears-events
