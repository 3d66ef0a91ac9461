use Rattle.std.proofs.Common.{rules}
use Rattle.result_log.proofs.Options.{OnErr-always}
use Rattle.result_log.proofs.Starting.{reply_stands, no-reply}
use Rattle.result_log.proofs.extras.get_reply.Goals as goal

pub returns-in_err-bytes-clause-err : goal.returns-in_err-bytes-clause-err
returns-in_err-bytes-clause-err c =
    OnErr-always c.from_residual.result
    (reply_stands c.args.bytes.now c.in-Some.device c.in-Some.given.now c.in-Some.rest.now (search rules))

pub returns-in_default-clause-ok : goal.returns-in_default-clause-ok
returns-in_default-clause-ok c = no-reply c.args.bytes.now (search rules)
