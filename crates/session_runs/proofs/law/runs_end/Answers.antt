use Rattle.session_runs.proofs.EndLemmas.{run_from-ends}
use Rattle.session_runs.proofs.law.runs_end.Goals as goal

pub returns : goal.returns
returns g = run_from-ends
