use Rattle.std.proofs.Common.{rules}
use Rattle.log_store.proofs.ReadRecords.{field-front}
use Rattle.log_store.proofs.payloads.split_len.Goals as goal

pub returns-clause-some : goal.returns-clause-some
returns-clause-some c =
    field-front c.args.behind.now c.in_ok-len.len.now c.in_ok-len.tail.now c.from_le_bytes.result (λ k. (c.type_inv.behind k).fits)
    (search rules) (search rules) (search rules) c.from_le_bytes.ensures
