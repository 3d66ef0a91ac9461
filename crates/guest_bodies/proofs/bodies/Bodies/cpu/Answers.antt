use Rattle.guest_bodies.proofs.Changes.{live-there}
use Rattle.guest_bodies.proofs.bodies.Bodies.cpu.Goals as goal

pub at-requires : goal.at-requires
at-requires c = live-there c.args.self.now c.self.inside.guests c.self.inside.memories c.args.pid c.self.view_is c.requires.live
