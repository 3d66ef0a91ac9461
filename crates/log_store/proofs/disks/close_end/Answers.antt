use Rattle.std.proofs.Common.{◌+◌, take, refl}
use Rattle.log_store.specs.Pieces.{IsSameFront}
use Rattle.log_store.proofs.Closing.{same_front_after}
use Rattle.log_store.proofs.Told.{told_two}
use Rattle.log_store.proofs.disks.close_end.Goals as goal

pub returns-clause-any_moment : goal.returns-clause-any_moment
returns-clause-any_moment g c =
    told_two g.D.Disk.image g.D.Disk.may_leave g.D.Disk.moment g.D.Disk.left_since (g.D.Disk.image c.args.disk.now) c.args.disk.now c.cut_behind.new.disk
    c.shut_gate.new.disk (take (c.args.gate + 1)) (IsSameFront c.args.gate) refl c.in_ok-cut_behind.ensures.cut c.in_ok-cut_behind.ensures.durable
    c.cut_behind.ensures.any_moment c.shut_gate.ensures.any_moment (same_front_after c.args.gate)
