use Rattle.query_laws.proofs.Named.{names-of-runs}
use Rattle.query_laws.proofs.names.names_are_of_runs.Goals as goal

pub returns : goal.returns
returns c = names-of-runs c.groups_pass_through.ensures c.lineage_is_joined.ensures c.versions_are_of_runs.ensures
