use Rattle.std.proofs.Common.{◌≡◌, ◌<◌, take, length, Err, arith}
use Rattle.std.proofs.lemmas.Result.{err_from_is_err_and}
use Rattle.history_index.proofs.Extended.{counts-within, step, broken-told, left}
use Rattle.history_index.proofs.index.Index.extend.Goals as goal

pub add-requires-clause-counts : goal.add-requires-clause-counts
add-requires-clause-counts c =
    counts-within c.loop-place.self (take c.loop-place.place c.args.entries.now) c.loop-place.invariant

pub returns-in_err-add-clause-broken : goal.returns-in_err-add-clause-broken
returns-in_err-add-clause-broken c =
    let within : c.loop-place.place < length c.args.entries.now = omega arith in
    let p = err_from_is_err_and c.from_residual.result c.from_residual.ensures.1 in
    let is : c.from_residual.result ≡ Err c.in_err-add.field-0.0 = cc (p.1, p.2) in
    rw is (broken-told c.loop-place.self c.args.entries.now c.loop-place.place c.index-entries-place.result within c.index-entries-place.is c.loop-place.invariant c.in_err-add.field-0.0 c.in_err-add.ensures.refused)

pub returns-in_err-add-clause-left : goal.returns-in_err-add-clause-left
returns-in_err-add-clause-left c =
    let within : c.loop-place.place < length c.args.entries.now = omega arith in
    let p = err_from_is_err_and c.from_residual.result c.from_residual.ensures.1 in
    let is : c.from_residual.result ≡ Err c.in_err-add.field-0.0 = cc (p.1, p.2) in
    rw is (left c.loop-place.self c.args.entries.now c.loop-place.place c.index-entries-place.result within c.index-entries-place.is c.loop-place.invariant c.add.new.self c.in_err-add.field-0.0 c.in_err-add.ensures.err c.in_err-add.ensures.refused)

pub loop-place-preserved : goal.loop-place-preserved
loop-place-preserved c =
    let within : c.loop-place.place < length c.args.entries.now = omega arith in
    step c.loop-place.self c.args.entries.now c.loop-place.place c.index-entries-place.result within c.index-entries-place.is c.loop-place.invariant c.add.new.self c.in_ok-add.ensures.stands c.in_ok-add.ensures.ok
