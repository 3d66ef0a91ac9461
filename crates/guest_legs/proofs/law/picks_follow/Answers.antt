use Rattle.guest_legs.proofs.PickLemmas.{PickedBy-append}
use Rattle.guest_legs.proofs.law.picks_follow.Goals as goal

pub returns : goal.returns
returns c = PickedBy-append
