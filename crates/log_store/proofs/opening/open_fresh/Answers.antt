use Rattle.std.proofs.Common.{◌≡◌, ◌≤◌, List, length, ap, arith}
use Rattle.std.proofs.lemmas.Option.{IfSome_then}
use Rattle.arn_base.specs.declared.records.Record.{Record}
use Rattle.log_store.specs.Log.{closed_log}
use Rattle.log_store.specs.Stores.{KeepsRecords}
use Rattle.log_store.proofs.Reopening.{fresh_closes, fresh_none, fresh_some, kept_fresh}
use Rattle.log_store.proofs.Told.{told_weaker}
use Rattle.log_store.proofs.opening.open_fresh.Goals as goal

pub returns-in_err-make_fresh-clause-any_moment : goal.returns-in_err-make_fresh-clause-any_moment
returns-in_err-make_fresh-clause-any_moment g c =
    told_weaker g.D.Disk.may_leave g.D.Disk.moment g.D.Disk.left_since (g.D.Disk.image c.args.disk.now) c.args.disk.now c.make_fresh.new.disk
    (λ told. told ≡ c.args.bytes.now) (λ old left. length left ≤ 9) KeepsRecords c.requires.told c.make_fresh.ensures.any_moment
    (λ old left same short. kept_fresh c.logs_read_one_way.ensures.one old left (omega (arith, ap length same, c.requires.short)) short)

pub returns-in_err-make_fresh-clause-untouched : goal.returns-in_err-make_fresh-clause-untouched
returns-in_err-make_fresh-clause-untouched g c is_none = absurd (fresh_some c.args.bytes.now c.requires.short is_none)

pub returns-clause-untouched : goal.returns-clause-untouched
returns-clause-untouched g c is_none = absurd (fresh_some c.args.bytes.now c.requires.short is_none)

pub returns-clause-any_moment : goal.returns-clause-any_moment
returns-clause-any_moment g c =
    told_weaker g.D.Disk.may_leave g.D.Disk.moment g.D.Disk.left_since (g.D.Disk.image c.args.disk.now) c.args.disk.now c.make_fresh.new.disk
    (λ told. told ≡ c.args.bytes.now) (λ old left. length left ≤ 9) KeepsRecords c.requires.told c.make_fresh.ensures.any_moment
    (λ old left same short. kept_fresh c.logs_read_one_way.ensures.one old left (omega (arith, ap length same, c.requires.short)) short)

pub returns-clause-shut : goal.returns-clause-shut
returns-clause-shut g c commits log =
    IfSome_then (g.D.Disk.image c.make_fresh.new.disk) c.in_ok-make_fresh.ensures.fresh
    (λ told is. fresh_closes commits (fresh_none c.args.bytes.now c.requires.short commits log) told is)

pub returns-clause-ends : goal.returns-clause-ends
returns-clause-ends g c commits log = omega (arith, ap (λ (x : List (List Record)). length (closed_log x)) (fresh_none c.args.bytes.now c.requires.short commits log))
