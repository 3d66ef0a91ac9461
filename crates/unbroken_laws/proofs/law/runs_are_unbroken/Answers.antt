use Rattle.unbroken_laws.proofs.Runs.{unbroken}
use Rattle.unbroken_laws.proofs.law.runs_are_unbroken.Goals as goal

pub returns : goal.returns
returns c = unbroken c.requests_bounded.ensures.bounded c.requests_bounded.ensures.count c.steps_tell.ensures c.runs_sound.ensures c.runs_append.ensures c.records_append.ensures c.records_tell_runs.ensures c.records_tell_moments.ensures
