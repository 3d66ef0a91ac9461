use Rattle.view_laws.proofs.GroupStates.{state-run}
use Rattle.view_laws.proofs.states.group_states_are_of_runs.Goals as goal

pub returns : goal.returns
returns c = λ inputs g moment few. state-run inputs g moment few c.groups_pass_through.ensures c.runs_append.ensures c.runs_sound.ensures
