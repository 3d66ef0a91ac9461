use Rattle.lineage_laws.proofs.Whole.{lineage}
use Rattle.lineage_laws.proofs.law.lineage_is_joined.Goals as goal

pub returns : goal.returns
returns c = lineage c.steps_tell.ensures c.runs_sound.ensures c.runs_append.ensures c.events_recorded.ensures
