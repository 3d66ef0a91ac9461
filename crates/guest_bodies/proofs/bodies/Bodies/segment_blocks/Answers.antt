use Rattle.guest_bodies.proofs.Changes.{live-there, there-of}
use Rattle.guest_bodies.proofs.bodies.Bodies.segment_blocks.Goals as goal

pub at-guest-requires : goal.at-guest-requires
at-guest-requires c = live-there c.args.self.now c.self.inside.guests c.self.inside.memories c.args.pid c.self.view_is c.requires.live

pub segment_blocks-requires : goal.segment_blocks-requires
segment_blocks-requires c = there-of c.args.pid c.at-guest.result.now c.self.inside.guests c.self.inside.memories c.self.invariant.sound c.at-guest.ensures
