use Rattle.std.proofs.Common.{◌≡◌, ◌+◌}
use Rattle.std.proofs.lemmas.Result.{err_from_is_err_and}
use Rattle.result_log.specs.Reading.{IsMalformed}
use Rattle.log_store.specs.Pieces.{IsPayloadBad}
use Rattle.log_store.proofs.ReadRecords.{IsRead-bad, IsRead-more, IsMalformedWhere-weaker}
use Rattle.log_store.proofs.payloads.read_payload.Goals as goal

pub returns-in_err-entry-clause-err : goal.returns-in_err-entry-clause-err
returns-in_err-entry-clause-err c =
    let p = err_from_is_err_and c.from_residual.result c.from_residual.ensures.1 in
    let payload = c.args.payload.now in
    let at = c.loop-at.at in
    rw (p.1, p.2)
    (IsMalformedWhere-weaker (λ bad. (bad ≡ c.args.place + at) × IsMalformed payload at) (IsPayloadBad payload c.args.place) c.in_err-entry.field-0.0 c.in_err-entry.ensures.err
    (λ bad h. IsRead-bad payload _ _ at c.args.place bad c.records_spelled_one_way.ensures.stands c.loop-at.invariant c.loop-at-test.true h.1 h.0))

pub loop-at-preserved : goal.loop-at-preserved
loop-at-preserved c =
    IsRead-more c.args.payload.now _ c.loop-at.entries.items _ c.loop-at.at c.in_ok-entry.next c.in_ok-entry.entry c.loop-at.invariant c.in_ok-entry.ensures.ok
    c.in_ok-push.ensures.items
