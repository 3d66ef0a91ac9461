use Rattle.log_model.proofs.NamedLemmas.{slices-named}
use Rattle.log_model.proofs.law.slices_are_named.Goals as goal

pub returns : goal.returns
returns c = slices-named c.turns_have_parts.ensures c.replies_are_told.ensures
