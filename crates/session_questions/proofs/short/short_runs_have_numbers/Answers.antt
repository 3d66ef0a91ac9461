use Rattle.session_questions.proofs.Counted.{has-numbers}
use Rattle.session_questions.proofs.short.short_runs_have_numbers.Goals as goal

pub returns : goal.returns
returns c = has-numbers c.records_bound.ensures c.runs_sound.ensures
