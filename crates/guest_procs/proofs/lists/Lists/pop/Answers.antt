use Rattle.std.proofs.Common.{arith}
use Rattle.guest_procs.proofs.Last.{popped-sound-is}
use Rattle.guest_procs.proofs.lists.Lists.pop.Goals as goal

pub returns-clause-sound : goal.returns-clause-sound
returns-clause-sound c =
    rw c.pop.ensures (popped-sound-is c.args.self.now.table c.args.self.now.present.items c.args.self.now.live.items c.pop-2.new.self.items c.pop-3.new.self.items _ _ c.requires.lives c.requires.sound c.pop-2.ensures.rest c.pop-3.ensures.rest (omega (arith, c.args.self.now.present.ok.0)) (omega (arith, c.args.self.now.live.ok.0)))
