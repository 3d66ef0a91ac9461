use Rattle.query_laws.proofs.RunsForth.{of-runs}
use Rattle.query_laws.proofs.forth.forth_is_of_runs.Goals as goal

pub returns : goal.returns
returns c =
    of-runs c.groups_pass_through.ensures c.lineage_is_joined.ensures c.records_tell_events.ensures c.steps_tell.ensures c.events_recorded.ensures c.runs_are_unbroken.ensures c.queries_are_of_runs.ensures c.forth_loses_nothing.ensures
