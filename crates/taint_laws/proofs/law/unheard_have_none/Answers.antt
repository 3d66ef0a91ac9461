use Rattle.taint_laws.proofs.Unheard.{unheard-none}
use Rattle.taint_laws.proofs.law.unheard_have_none.Goals as goal

pub returns : goal.returns
returns c = unheard-none
