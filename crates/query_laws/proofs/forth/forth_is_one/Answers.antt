use Rattle.query_laws.proofs.AskedForth.{forth-only-one}
use Rattle.query_laws.proofs.forth.forth_is_one.Goals as goal

pub returns : goal.returns
returns c = λ entries from groups stands all lists. forth-only-one entries from stands all groups lists
