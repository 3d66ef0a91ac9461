use Rattle.query_laws.proofs.Asked.{connected}
use Rattle.query_laws.proofs.law.groups_are_connected.Goals as goal

pub returns : goal.returns
returns c = λ entries from stands groups. connected entries from stands groups
