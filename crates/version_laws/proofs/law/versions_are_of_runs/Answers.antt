use Rattle.version_laws.proofs.Versions.{versions}
use Rattle.version_laws.proofs.law.versions_are_of_runs.Goals as goal

pub returns : goal.returns
returns c = λ inputs moment name few. versions c.steps_tell.ensures c.runs_sound.ensures c.runs_append.ensures c.events_recorded.ensures c.records_tell_events.ensures inputs moment name few
