use Rattle.guest_bodies.proofs.Unheld.{others_stay}
use Rattle.guest_bodies.proofs.law.others_stay_unheld.Goals as goal

pub returns : goal.returns
returns c = others_stay
