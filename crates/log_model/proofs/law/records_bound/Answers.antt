use Rattle.log_model.proofs.Bounds.{records-bound}
use Rattle.log_model.proofs.law.records_bound.Goals as goal

pub returns : goal.returns
returns c = records-bound c.turns_have_parts.ensures
