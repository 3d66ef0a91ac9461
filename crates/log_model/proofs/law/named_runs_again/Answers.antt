use Rattle.log_model.proofs.RunLemmas.{run-again}
use Rattle.log_model.proofs.law.named_runs_again.Goals as goal

pub returns : goal.returns
returns c = run-again c.turns_have_parts.ensures c.runs_append.ensures c.replies_are_told.ensures
