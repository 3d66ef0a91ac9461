use Rattle.std.proofs.Common.{◌∙◌}
use Rattle.guest_procs.specs.Status.{status_byte}
use Rattle.guest_procs.proofs.Ends.{ended-is, ended-sound}
use Rattle.guest_procs.proofs.lists.Lists.end.Goals as goal

pub returns-clause-table : goal.returns-clause-table
returns-clause-table c =
    c.keep.ensures.table ∙ ended-is c.args.self.now.table c.orphan_all.new.self c.end.new.self c.args.pid (status_byte c.args.status c.args.event) c.orphan_all.ensures c.end.ensures

pub returns-clause-sound : goal.returns-clause-sound
returns-clause-sound c =
    rw c.keep.ensures.table (ended-sound c.args.self.now.table c.orphan_all.new.self c.end.new.self c.args.pid (status_byte c.args.status c.args.event) c.args.self.now.present.items c.args.self.now.live.items c.keep.new.self.present.items c.keep.new.self.live.items c.requires c.orphan_all.ensures c.end.ensures c.keep.ensures.present c.keep.ensures.live)
