use Rattle.std.proofs.Common.{◌⊎◌, ◌-◌, length, refl}
use Rattle.std.proofs.lemmas.Result.{err_from_is_err_and}
use Rattle.log_store.specs.Refused.{IsBroken, IsCutShort, IsMisspelled}
use Rattle.log_store.proofs.ReadRecords.{IsMalformedWhere-weaker}
use Rattle.log_store.proofs.Walks.{IsWalked-bad, IsWalked-more}
use Rattle.log_store.proofs.frames.read_frames.Goals as goal

pub returns-in_err-end-clause-err : goal.returns-in_err-end-clause-err
returns-in_err-end-clause-err c =
    let p = err_from_is_err_and c.from_residual.result c.from_residual.ensures.1 in
    let behind = c.in-Some.behind.now in
    let gate = length c.args.bytes.now - length c.loop-behind.end.now in
    rw (p.1, p.2)
    (IsMalformedWhere-weaker (λ at. IsCutShort gate at behind ⊎ IsMisspelled gate at behind) (IsBroken c.args.bytes.now) c.in_err-end.field-0.0 c.in_err-end.ensures.err
    (λ at bad. IsWalked-bad c.args.bytes.now c.loop-behind.end.now behind c.loop-behind.entries.items gate at c.loop-behind.invariant c.in-Some.ensures.some.0 refl bad))

pub loop-behind-preserved : goal.loop-behind-preserved
loop-behind-preserved c =
    IsWalked-more c.args.bytes.now c.loop-behind.end.now c.in-Some.behind.now c.in_ok-end.end.now c.loop-behind.entries.items c.read_frame.new.entries.items
    c.loop-behind.invariant c.in-Some.ensures.some.0 c.in_ok-end.ensures.ok
