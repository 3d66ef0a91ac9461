use Rattle.std.proofs.Common.{rules}
use Rattle.result_log.proofs.Options.{OnErr-always}
use Rattle.result_log.proofs.Starting.{name_stands, no-named}
use Rattle.result_log.proofs.extras.get_name.Goals as goal

pub returns-in_err-path-clause-err : goal.returns-in_err-path-clause-err
returns-in_err-path-clause-err c =
    OnErr-always c.from_residual.result
    (name_stands c.args.bytes.now c.in-Some.file c.in-Some.path.now c.in-Some.rest.now (search rules))

pub returns-in_default-clause-ok : goal.returns-in_default-clause-ok
returns-in_default-clause-ok c = no-named c.args.bytes.now (search rules)
