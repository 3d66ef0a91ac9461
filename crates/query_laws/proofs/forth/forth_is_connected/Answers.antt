use Rattle.query_laws.proofs.AskedForth.{forth-connected}
use Rattle.query_laws.proofs.forth.forth_is_connected.Goals as goal

pub returns : goal.returns
returns c = λ entries from stands groups. forth-connected entries from stands groups
