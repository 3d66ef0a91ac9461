use Rattle.guest_bodies.proofs.Later.{later}
use Rattle.guest_bodies.proofs.law.later_is_fresh.Goals as goal

pub returns : goal.returns
returns c = later
