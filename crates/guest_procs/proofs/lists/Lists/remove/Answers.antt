use Rattle.guest_procs.proofs.Ends.{removed-sound}
use Rattle.guest_procs.proofs.lists.Lists.remove.Goals as goal

pub returns-clause-sound : goal.returns-clause-sound
returns-clause-sound c =
    rw c.keep.ensures.table (removed-sound c.args.self.now.table c.remove.new.self c.args.pid c.args.self.now.present.items c.args.self.now.live.items c.keep.new.self.present.items c.keep.new.self.live.items c.requires c.remove.ensures c.keep.ensures.present c.keep.ensures.live)
