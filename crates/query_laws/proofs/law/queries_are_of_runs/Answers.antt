use Rattle.query_laws.proofs.OfRuns.{answers}
use Rattle.query_laws.proofs.law.queries_are_of_runs.Goals as goal

pub returns : goal.returns
returns c = λ table inputs few. answers table inputs few c.groups_pass_through.ensures c.lineage_is_joined.ensures c.records_tell_events.ensures c.steps_tell.ensures
