use Rattle.session_questions.proofs.Spelled.{countable}
use Rattle.session_questions.proofs.short.short_logs_are_countable.Goals as goal

pub returns : goal.returns
returns c = countable
