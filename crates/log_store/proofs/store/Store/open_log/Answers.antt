use Rattle.std.proofs.Common.{rules, ◌≡◌, ◌⊎◌, ◌<◌, ◌≤◌, length, IfSome}
use Rattle.log_store.specs.Stores.{KeepsRecords}
use Rattle.log_store.specs.Log.{IsClosedLog, IsClosedLogOf, IsLogOf, closed_log}
use Rattle.log_store.specs.Refused.{IsNoLog}
use Rattle.log_store.specs.declared.size.TheConstants.{MOST_LOG}
use Rattle.log_store.proofs.Reopening.{kept_same, told_is, untouched_if}
use Rattle.log_store.proofs.Told.{told_read, told_then, told_unchanged}
use Rattle.log_store.proofs.store.Store.open_log.Goals as goal

pub returns-in_err-bytes-clause-any_moment : goal.returns-in_err-bytes-clause-any_moment
returns-in_err-bytes-clause-any_moment g c =
    told_read g.D.Disk.may_leave g.D.Disk.moment g.D.Disk.left_since (g.D.Disk.image c.args.disk.now) c.args.disk.now c.load.new.disk KeepsRecords
    c.load.ensures.read.any_moment kept_same

pub returns-in_err-entries-clause-any_moment : goal.returns-in_err-entries-clause-any_moment
returns-in_err-entries-clause-any_moment g c =
    told_then g.D.Disk.may_leave g.D.Disk.moment g.D.Disk.left_since (g.D.Disk.image c.args.disk.now) (g.D.Disk.image c.load.new.disk) c.args.disk.now
    c.load.new.disk c.open_bytes.new.disk KeepsRecords c.load.ensures.read.told c.load.ensures.read.no_more c.load.ensures.read.any_moment
    c.open_bytes.ensures.any_moment kept_same

pub returns-clause-any_moment : goal.returns-clause-any_moment
returns-clause-any_moment g c =
    told_then g.D.Disk.may_leave g.D.Disk.moment g.D.Disk.left_since (g.D.Disk.image c.args.disk.now) (g.D.Disk.image c.load.new.disk) c.args.disk.now
    c.load.new.disk c.open_bytes.new.disk KeepsRecords c.load.ensures.read.told c.load.ensures.read.no_more c.load.ensures.read.any_moment
    c.open_bytes.ensures.any_moment kept_same

pub returns-in_err-entries-clause-untouched : goal.returns-in_err-entries-clause-untouched
returns-in_err-entries-clause-untouched g c =
    let bytes = c.as_slice.result.now in
    let told : IfSome (g.D.Disk.image c.args.disk.now) (λ told. told ≡ bytes) = search rules in
    let short : length bytes ≤ MOST_LOG = search rules in
    told_unchanged g.D.Disk.image g.D.Disk.may_leave g.D.Disk.moment g.D.Disk.left_since (g.D.Disk.image c.args.disk.now) c.args.disk.now c.load.new.disk
    c.open_bytes.new.disk bytes (λ bytes. IsNoLog bytes ⊎ (MOST_LOG < length bytes)) told c.load.ensures.read
    (untouched_if bytes c.open_bytes.new.disk c.load.new.disk short c.open_bytes.ensures.untouched)

pub returns-in_err-entries-clause-closed : goal.returns-in_err-entries-clause-closed
returns-in_err-entries-clause-closed g c records =
    let bytes = c.as_slice.result.now in
    let told : IfSome (g.D.Disk.image c.args.disk.now) (λ told. told ≡ bytes) = search rules in
    told_unchanged g.D.Disk.image g.D.Disk.may_leave g.D.Disk.moment g.D.Disk.left_since (g.D.Disk.image c.args.disk.now) c.args.disk.now c.load.new.disk
    c.open_bytes.new.disk bytes (λ bytes. IsClosedLog bytes records) told c.load.ensures.read (c.open_bytes.ensures.closed records)

pub returns-clause-untouched : goal.returns-clause-untouched
returns-clause-untouched g c =
    let bytes = c.as_slice.result.now in
    let told : IfSome (g.D.Disk.image c.args.disk.now) (λ told. told ≡ bytes) = search rules in
    let short : length bytes ≤ MOST_LOG = search rules in
    told_unchanged g.D.Disk.image g.D.Disk.may_leave g.D.Disk.moment g.D.Disk.left_since (g.D.Disk.image c.args.disk.now) c.args.disk.now c.load.new.disk
    c.open_bytes.new.disk bytes (λ bytes. IsNoLog bytes ⊎ (MOST_LOG < length bytes)) told c.load.ensures.read
    (untouched_if bytes c.open_bytes.new.disk c.load.new.disk short c.open_bytes.ensures.untouched)

pub returns-clause-closed : goal.returns-clause-closed
returns-clause-closed g c records =
    let bytes = c.as_slice.result.now in
    let told : IfSome (g.D.Disk.image c.args.disk.now) (λ told. told ≡ bytes) = search rules in
    told_unchanged g.D.Disk.image g.D.Disk.may_leave g.D.Disk.moment g.D.Disk.left_since (g.D.Disk.image c.args.disk.now) c.args.disk.now c.load.new.disk
    c.open_bytes.new.disk bytes (λ bytes. IsClosedLog bytes records) told c.load.ensures.read (c.open_bytes.ensures.closed records)

pub returns-clause-shut : goal.returns-clause-shut
returns-clause-shut g c commits =
    let bytes = c.as_slice.result.now in
    let told : IfSome (g.D.Disk.image c.args.disk.now) (λ told. told ≡ bytes) = search rules in
    told_is (g.D.Disk.image c.args.disk.now) bytes (λ old. IsLogOf old commits → IfSome (g.D.Disk.image c.open_bytes.new.disk) (λ new. IsClosedLogOf new commits)) told
    (c.in_ok-entries.ensures.shut commits)

pub returns-clause-ends : goal.returns-clause-ends
returns-clause-ends g c commits =
    let bytes = c.as_slice.result.now in
    let told : IfSome (g.D.Disk.image c.args.disk.now) (λ told. told ≡ bytes) = search rules in
    told_is (g.D.Disk.image c.args.disk.now) bytes (λ old. IsLogOf old commits → c.in_ok-entries.field-0.log_len ≡ length (closed_log commits)) told
    (c.in_ok-entries.ensures.ends commits)
