use Rattle.guest_procs.proofs.Ends.{descriptor-sound}
use Rattle.guest_procs.proofs.lists.Lists.set_descriptor.Goals as goal

pub returns-clause-sound : goal.returns-clause-sound
returns-clause-sound c =
    descriptor-sound c.args.self.now.table c.set_descriptor.new.self c.args.pid c.args.number c.args.found c.args.self.now.present.items c.args.self.now.live.items c.requires.sound c.set_descriptor.ensures
