use Rattle.std.proofs.Common.{ap, arith, length, length-append}
use Rattle.schedule_log.specs.Fields.{counted}
use Rattle.exchange_log.specs.Gives.{origins_fields}
use Rattle.exchange_log.proofs.OneWay.{length-origins}
use Rattle.exchange_log.proofs.len.give_len.Goals as goal

pub returns-clause-len : goal.returns-clause-len
returns-clause-len c =
    let give = c.args.give.now in
    omega (arith, ap length c.as_slice-bytes.ensures, ap length c.as_slice.ensures, length-append (counted give.bytes) (origins_fields give.origins), length-origins give.origins)
