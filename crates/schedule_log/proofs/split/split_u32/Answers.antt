use Rattle.std.proofs.Common.{rules}
use Rattle.schedule_log.proofs.Fronts.{field4-front}
use Rattle.schedule_log.proofs.split.split_u32.Goals as goal

pub returns-clause-some : goal.returns-clause-some
returns-clause-some c =
    field4-front c.args.bytes.now c.in_ok-number.number.now c.in_ok-number.rest.now c.read_u32.result (λ k. (c.type_inv.bytes k).fits)
    (search rules) (search rules) (search rules) c.read_u32.ensures
