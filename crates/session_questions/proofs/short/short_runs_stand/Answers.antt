use Rattle.session_questions.proofs.Counted.{stands}
use Rattle.session_questions.proofs.short.short_runs_stand.Goals as goal

pub returns : goal.returns
returns c = stands c.short_runs_have_numbers.ensures c.runs_are_unbroken.ensures
