use Rattle.query_laws.proofs.Sinks.{sinks-reached}
use Rattle.query_laws.proofs.forth.sinks_are_reached.Goals as goal

pub returns : goal.returns
returns c = sinks-reached
