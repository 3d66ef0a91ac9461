use Rattle.std.proofs.Common.{◌≡◌, ◌++◌, ◌∷◌, [], ◌-◌, ◌+◌, length, take, refl, arith}
use Rattle.std.proofs.lemmas.Option.{IfSome_then}
use Rattle.std.proofs.lemmas.Result.{err_from_is_err_and}
use Rattle.log_store.specs.Stores.{KeepsRecords}
use Rattle.log_store.specs.Log.{IsClosedLogOf}
use Rattle.log_store.specs.Pieces.{IsLeft, IsSameFront}
use Rattle.log_store.proofs.OneWay.{closed_end}
use Rattle.log_store.proofs.Reopening.{bad_cause, found_closes, found_ends, found_left, found_length, found_some, kept_found, kept_same, told_unmoved}
use Rattle.log_store.proofs.Sizes.{found-sized}
use Rattle.log_store.proofs.Spellings.{found_spelled}
use Rattle.log_store.proofs.Told.{told_after, told_weaker}
use Rattle.log_store.proofs.opening.open_bytes.Goals as goal

pub returns-in_err-found-clause-any_moment : goal.returns-in_err-found-clause-any_moment
returns-in_err-found-clause-any_moment g c =
    told_unmoved g.D.Disk.may_leave g.D.Disk.moment g.D.Disk.left_since (g.D.Disk.image c.args.disk.now) c.args.disk.now KeepsRecords
    (λ bytes left. g.met.D.Disk.only_now c.args.disk.now bytes left) kept_same

pub returns-in_err-found-clause-refused : goal.returns-in_err-found-clause-refused
returns-in_err-found-clause-refused g c =
    let p = err_from_is_err_and c.from_residual.result c.from_residual.ensures.1 in
    rw (p.1, p.2) (bad_cause c.logs_read_one_way.ensures.none c.args.bytes.now c.requires.short c.in_err-found.field-0.0 c.in_err-found.ensures.err)

pub close_end-requires-clause-told : goal.close_end-requires-clause-told
close_end-requires-clause-told g c =
    IfSome_then (g.D.Disk.image c.args.disk.now) c.requires.told
    (λ told same. found_ends c.args.bytes.now c.in_ok-found.found.entries.items c.in_ok-found.found.end.now c.in_ok-found.ensures.ok _ refl told same)

pub returns-in_err-close_end-clause-any_moment : goal.returns-in_err-close_end-clause-any_moment
returns-in_err-close_end-clause-any_moment g c =
    let end = c.in_ok-found.found.end.now in
    let gate = length c.args.bytes.now - length end in
    told_weaker g.D.Disk.may_leave g.D.Disk.moment g.D.Disk.left_since (g.D.Disk.image c.args.disk.now) c.args.disk.now c.close_end.new.disk
    (λ told. told ≡ c.args.bytes.now) (IsSameFront gate) KeepsRecords c.requires.told c.close_end.ensures.any_moment
    (λ old left same kept. kept_found c.args.bytes.now c.in_ok-found.found.entries.items end c.in_ok-found.ensures.ok gate refl c.logs_read_one_way.ensures.one old left same kept)

pub returns-clause-left : goal.returns-clause-left
returns-clause-left g c =
    let end = c.in_ok-found.found.end.now in
    let gate = length c.args.bytes.now - length end in
    told_after (g.D.Disk.image c.args.disk.now) _ (λ told. take gate told ++ 0 ∷ []) (λ told. told ≡ c.args.bytes.now) (IsLeft c.in_ok-found.found.entries.items (gate + 1))
    c.in_ok-close_end.ensures.closed c.requires.told
    (λ told same. found_left c.args.bytes.now c.in_ok-found.found.entries.items end c.in_ok-found.ensures.ok gate refl told same)

pub returns-clause-any_moment : goal.returns-clause-any_moment
returns-clause-any_moment g c =
    let end = c.in_ok-found.found.end.now in
    let gate = length c.args.bytes.now - length end in
    told_weaker g.D.Disk.may_leave g.D.Disk.moment g.D.Disk.left_since (g.D.Disk.image c.args.disk.now) c.args.disk.now c.close_end.new.disk
    (λ told. told ≡ c.args.bytes.now) (IsSameFront gate) KeepsRecords c.requires.told c.close_end.ensures.any_moment
    (λ old left same kept. kept_found c.args.bytes.now c.in_ok-found.found.entries.items end c.in_ok-found.ensures.ok gate refl c.logs_read_one_way.ensures.one old left same kept)

pub returns-in_err-close_end-clause-untouched : goal.returns-in_err-close_end-clause-untouched
returns-in_err-close_end-clause-untouched g c is_none =
    absurd (found_some c.args.bytes.now c.in_ok-found.found.entries.items c.in_ok-found.found.end.now c.in_ok-found.ensures.ok _ refl is_none)

pub returns-in_err-close_end-clause-closed : goal.returns-in_err-close_end-clause-closed
returns-in_err-close_end-clause-closed g c records log =
    let end = c.in_ok-found.found.end.now in
    c.close_end.ensures.unmoved
    (closed_end c.records_spelled_one_way.ensures.spelled c.args.bytes.now c.in_ok-found.found.entries.items records end c.in_ok-found.ensures.ok log)

pub returns-clause-untouched : goal.returns-clause-untouched
returns-clause-untouched g c is_none =
    absurd (found_some c.args.bytes.now c.in_ok-found.found.entries.items c.in_ok-found.found.end.now c.in_ok-found.ensures.ok _ refl is_none)

pub returns-clause-closed : goal.returns-clause-closed
returns-clause-closed g c records log =
    let end = c.in_ok-found.found.end.now in
    c.close_end.ensures.unmoved
    (closed_end c.records_spelled_one_way.ensures.spelled c.args.bytes.now c.in_ok-found.found.entries.items records end c.in_ok-found.ensures.ok log)

pub returns-clause-spelled : goal.returns-clause-spelled
returns-clause-spelled g c =
    found_spelled c.args.bytes.now c.in_ok-found.found.entries.items c.in_ok-found.found.end.now c.in_ok-found.ensures.ok

pub returns-clause-sized : goal.returns-clause-sized
returns-clause-sized g c =
    omega (arith, found-sized c.args.bytes.now c.in_ok-found.found.entries.items c.in_ok-found.found.end.now c.in_ok-found.ensures.ok)

pub returns-clause-shut : goal.returns-clause-shut
returns-clause-shut g c commits log =
    let end = c.in_ok-found.found.end.now in
    let gate = length c.args.bytes.now - length end in
    told_after (g.D.Disk.image c.args.disk.now) _ (λ told. take gate told ++ 0 ∷ []) (λ told. told ≡ c.args.bytes.now) (λ told. IsClosedLogOf told commits)
    c.in_ok-close_end.ensures.closed c.requires.told
    (λ told same. found_closes c.args.bytes.now c.in_ok-found.found.entries.items end c.in_ok-found.ensures.ok gate refl c.logs_read_one_way.ensures.commits commits log told same)

pub returns-clause-ends : goal.returns-clause-ends
returns-clause-ends g c commits log =
    let end = c.in_ok-found.found.end.now in
    found_length c.args.bytes.now c.in_ok-found.found.entries.items end c.in_ok-found.ensures.ok (length c.args.bytes.now - length end) refl c.logs_read_one_way.ensures.commits commits log
