use Rattle.guest_bodies.proofs.Changes.{live-there, there-of}
use Rattle.guest_bodies.proofs.bodies.Bodies.can_reach.Goals as goal

pub at-requires : goal.at-requires
at-requires c = live-there c.args.self.now c.self.inside.guests c.self.inside.memories c.args.pid c.self.view_is c.requires.live

pub can_reach-requires : goal.can_reach-requires
can_reach-requires c = there-of c.args.pid c.at.result.now c.self.inside.guests c.self.inside.memories c.self.invariant.sound c.at.ensures
