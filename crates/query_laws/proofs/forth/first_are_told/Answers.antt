use Rattle.query_laws.proofs.First.{first-told}
use Rattle.query_laws.proofs.forth.first_are_told.Goals as goal

pub returns : goal.returns
returns c = first-told
