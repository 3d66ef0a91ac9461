use Rattle.std.proofs.Common.{◌+◌}
use Rattle.arn_base.specs.Disk.{Cut}
use Rattle.log_store.specs.Pieces.{EndsWith, IsSameFront}
use Rattle.log_store.proofs.Closing.{cut_front}
use Rattle.log_store.proofs.Told.{told_weaker_any}
use Rattle.log_store.proofs.disks.cut_behind.Goals as goal

pub returns-then-end-gt1-clause-any_moment : goal.returns-then-end-gt1-clause-any_moment
returns-then-end-gt1-clause-any_moment g c =
    told_weaker_any g.D.Disk.may_leave g.D.Disk.moment g.D.Disk.left_since (g.D.Disk.image c.args.disk.now) c.args.disk.now c.cut_through.new.disk
    (EndsWith c.args.gate c.args.end.now) (Cut (c.args.gate + 1)) (IsSameFront c.args.gate) c.requires.told c.cut_through.ensures.any_moment
    (λ old left ends cut. cut_front c.args.gate c.args.end.now old left ends c.requires.end c.if-end-gt1.true cut)
