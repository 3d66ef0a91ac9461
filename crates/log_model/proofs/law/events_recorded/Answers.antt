use Rattle.log_model.proofs.RunLemmas.{records-kept}
use Rattle.log_model.proofs.law.events_recorded.Goals as goal

pub returns : goal.returns
returns c = records-kept c.turns_have_parts.ensures
