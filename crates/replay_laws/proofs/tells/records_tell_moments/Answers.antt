use Rattle.replay_laws.proofs.TellsRuns.{records-tell-moments}
use Rattle.replay_laws.proofs.tells.records_tell_moments.Goals as goal

pub returns : goal.returns
returns c = records-tell-moments c.turns_have_parts.ensures c.steps_tell.ensures c.runs_sound.ensures
