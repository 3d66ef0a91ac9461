use Rattle.std.proofs.lemmas.Result.{on_err_weaker}
use Rattle.log_store.proofs.Adding.{frame_moments, first_moments}
use Rattle.log_store.proofs.Shut.{first_shut, second_shut, OnErr-always}
use Rattle.log_store.proofs.commits.add_frame.Goals as goal

pub returns-in_err-write_through-clause-any_moment : goal.returns-in_err-write_through-clause-any_moment
returns-in_err-write_through-clause-any_moment g c =
    first_moments g.D.Disk.may_leave g.D.Disk.moment g.D.Disk.left_since (g.D.Disk.image c.args.disk.now) c.args.disk.now c.write_through.new.disk
    c.args.log_len c.args.bytes.now c.write_through.ensures.any_moment c.requires.told

pub returns-clause-any_moment : goal.returns-clause-any_moment
returns-clause-any_moment g c =
    frame_moments g.D.Disk.image g.D.Disk.may_leave g.D.Disk.moment g.D.Disk.left_since (g.D.Disk.image c.args.disk.now) c.args.disk.now
    c.write_through.new.disk c.write_through-2.new.disk c.args.log_len c.args.bytes.now c.requires.len c.in_ok-write_through.ensures.written
    c.in_ok-write_through.ensures.durable c.write_through.ensures.any_moment c.write_through-2.ensures.any_moment c.requires.told

pub returns-in_err-write_through-clause-shut : goal.returns-in_err-write_through-clause-shut
returns-in_err-write_through-clause-shut g c =
    OnErr-always c.from_residual.result
    (first_shut (g.D.Disk.image c.args.disk.now) (g.D.Disk.may_leave c.args.disk.now) (g.D.Disk.may_leave c.write_through.new.disk)
    (g.met.D.Disk.reads_may_stay c.args.disk.now) c.in_err-write_through.ensures.keeps)

pub returns-clause-shut : goal.returns-clause-shut
returns-clause-shut g c =
    on_err_weaker c.write_through-2.result
    (second_shut (g.D.Disk.image c.args.disk.now) (g.D.Disk.image c.write_through.new.disk) (g.D.Disk.may_leave c.write_through.new.disk)
    (g.D.Disk.may_leave c.write_through-2.new.disk) c.args.log_len c.args.bytes.now c.in_ok-write_through.ensures.written c.requires.told
    (g.met.D.Disk.reads_may_stay c.write_through.new.disk))
    c.write_through-2.ensures.keeps
