use Rattle.query_laws.proofs.Named.{written-bytes}
use Rattle.query_laws.proofs.names.written_is_of_bytes.Goals as goal

pub returns : goal.returns
returns c = written-bytes c.groups_are_connected.ensures c.reaching_is_of_bytes.ensures
