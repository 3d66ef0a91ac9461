use Rattle.query_laws.proofs.Asked.{only-one}
use Rattle.query_laws.proofs.law.groups_are_one.Goals as goal

pub returns : goal.returns
returns c = λ entries from groups stands all lists. only-one entries from stands all groups lists
