use Rattle.session_questions.proofs.Compared.{verified}
use Rattle.session_questions.proofs.verify.verify_tells_runs.Goals as goal

pub returns : goal.returns
returns c = verified c.records_compare.ensures
