use Rattle.std.proofs.Common.{rules}
use Rattle.schedule_log.proofs.Fronts.{field8-front}
use Rattle.schedule_log.proofs.split.split_u64.Goals as goal

pub returns-clause-some : goal.returns-clause-some
returns-clause-some c =
    field8-front c.args.bytes.now c.in_ok-number.number.now c.in_ok-number.rest.now c.read_u64.result (λ k. (c.type_inv.bytes k).fits)
    (search rules) (search rules) (search rules) c.read_u64.ensures
