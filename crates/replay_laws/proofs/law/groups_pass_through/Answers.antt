use Rattle.replay_laws.proofs.Whole.{passes}
use Rattle.replay_laws.proofs.law.groups_pass_through.Goals as goal

pub returns : goal.returns
returns c = passes c.instructions_keep_lengths.ensures c.steps_tell.ensures c.runs_sound.ensures c.runs_append.ensures
