use Rattle.std.proofs.Common.{rules}
use Rattle.result_log.proofs.Options.{OnErr-always}
use Rattle.result_log.proofs.Starting.{sent_stands, no-sent}
use Rattle.result_log.proofs.extras.get_sent.Goals as goal

pub returns-in_err-bytes-clause-err : goal.returns-in_err-bytes-clause-err
returns-in_err-bytes-clause-err c =
    OnErr-always c.from_residual.result
    (sent_stands c.args.bytes.now c.in-Some.device c.in-Some.taken.now c.in-Some.rest.now (search rules))

pub returns-in_default-clause-ok : goal.returns-in_default-clause-ok
returns-in_default-clause-ok c = no-sent c.args.bytes.now (search rules)
