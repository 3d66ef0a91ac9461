use Rattle.guest_machine.proofs.GoneLemmas.{unasked-gone}
use Rattle.guest_machine.proofs.law.gone_unasked.Goals as goal

pub returns : goal.returns
returns c = unasked-gone
