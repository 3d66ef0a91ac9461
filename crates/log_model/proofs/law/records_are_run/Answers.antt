use Rattle.log_model.proofs.RunLemmas.{records-IsRun}
use Rattle.log_model.proofs.law.records_are_run.Goals as goal

pub returns : goal.returns
returns c = records-IsRun c.turns_have_parts.ensures c.runs_append.ensures c.replies_are_told.ensures
