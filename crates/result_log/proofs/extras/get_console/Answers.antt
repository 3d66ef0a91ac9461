use Rattle.std.proofs.Common.{rules}
use Rattle.result_log.proofs.Options.{OnErr-always}
use Rattle.result_log.proofs.Starting.{console_stands, no-console}
use Rattle.result_log.proofs.extras.get_console.Goals as goal

pub returns-in_err-bytes-clause-err : goal.returns-in_err-bytes-clause-err
returns-in_err-bytes-clause-err c =
    OnErr-always c.from_residual.result
    (console_stands c.args.bytes.now c.in-Some.written.now c.in-Some.rest.now (search rules))

pub returns-in_default-clause-ok : goal.returns-in_default-clause-ok
returns-in_default-clause-ok c = no-console c.args.bytes.now (search rules)
