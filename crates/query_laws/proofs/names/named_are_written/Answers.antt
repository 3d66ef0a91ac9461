use Rattle.query_laws.proofs.Written.{named-written}
use Rattle.query_laws.proofs.names.named_are_written.Goals as goal

pub returns : goal.returns
returns c = named-written
