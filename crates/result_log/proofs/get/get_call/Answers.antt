use Rattle.std.proofs.Common.{rules, ◌∷◌}
use Rattle.result_log.specs.declared.kinds.TheConstants.{CALL}
use Rattle.result_log.proofs.Options.{OnErr-always}
use Rattle.result_log.proofs.Starting.{call_stands, no-call-by-head, no-call-by-extra}
use Rattle.result_log.proofs.get.get_call.Goals as goal

pub returns-in_err-extra-clause-err : goal.returns-in_err-extra-clause-err
returns-in_err-extra-clause-err c =
    OnErr-always c.from_residual.result
    (call_stands (CALL ∷ c.args.bytes.now) c.in-Some.behind.now c.in-Some.head.pid c.in-Some.head.number c.in-Some.head.result
    (search rules) (search rules) (search rules))

pub returns-in_default-clause-ok : goal.returns-in_default-clause-ok
returns-in_default-clause-ok c = no-call-by-head c.args.bytes.now (search rules)

pub returns-in_default-2-clause-ok : goal.returns-in_default-2-clause-ok
returns-in_default-2-clause-ok c =
    no-call-by-extra c.args.bytes.now c.in-Some.behind.now c.in-Some.head.pid c.in-Some.head.number c.in-Some.head.result (search rules) (search rules)
