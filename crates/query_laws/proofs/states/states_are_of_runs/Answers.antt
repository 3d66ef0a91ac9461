use Rattle.query_laws.proofs.Lived.{states-of-runs}
use Rattle.query_laws.proofs.states.states_are_of_runs.Goals as goal

pub returns : goal.returns
returns c = states-of-runs c.groups_pass_through.ensures c.lineage_is_joined.ensures c.runs_are_unbroken.ensures c.lives_have_groups.ensures
