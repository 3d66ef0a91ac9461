use Rattle.std.proofs.Common.{rules}
use Rattle.result_log.proofs.Options.{OnErr-always}
use Rattle.result_log.proofs.Starting.{given_stands, no-given}
use Rattle.result_log.proofs.extras.get_given.Goals as goal

pub returns-in_err-give-clause-err : goal.returns-in_err-give-clause-err
returns-in_err-give-clause-err c =
    OnErr-always c.from_residual.result (given_stands c.args.bytes.now (search rules))

pub returns-in_default-clause-ok : goal.returns-in_default-clause-ok
returns-in_default-clause-ok c = no-given c.args.bytes.now (search rules)
