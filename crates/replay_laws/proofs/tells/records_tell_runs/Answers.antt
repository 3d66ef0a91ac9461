use Rattle.replay_laws.proofs.TellsRuns.{records-tell-runs}
use Rattle.replay_laws.proofs.tells.records_tell_runs.Goals as goal

pub returns : goal.returns
returns c = records-tell-runs c.turns_have_parts.ensures c.steps_tell.ensures c.runs_append.ensures c.runs_sound.ensures c.events_recorded.ensures
