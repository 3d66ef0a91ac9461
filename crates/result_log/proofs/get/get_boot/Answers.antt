use Rattle.std.proofs.Common.{rules}
use Rattle.result_log.proofs.Options.{OnErr-always}
use Rattle.result_log.proofs.Starting.{boot-starts, boot_stands, no-boot-by-give, no-boot-by-name}
use Rattle.result_log.proofs.get.get_boot.Goals as goal

pub returns-in_err-give-clause-err : goal.returns-in_err-give-clause-err
returns-in_err-give-clause-err c =
    OnErr-always c.from_residual.result
    (boot_stands c.args.bytes.now c.in-Some.name.now c.in-Some.behind.now (search rules) (search rules))

pub returns-in_default-2-clause-ok : goal.returns-in_default-2-clause-ok
returns-in_default-2-clause-ok c =
    no-boot-by-give c.args.bytes.now c.in-Some.name.now c.in-Some.behind.now (search rules) (search rules)

pub returns-in_err-name-clause-err : goal.returns-in_err-name-clause-err
returns-in_err-name-clause-err c =
    OnErr-always c.from_residual-in_err-name.result
    (boot_stands c.args.bytes.now c.in-Some.name.now c.in-Some.behind.now (search rules) (c.in-Some-2.give, (c.in-Some-2.rest.now, search rules)))

pub returns-in_default-clause-ok : goal.returns-in_default-clause-ok
returns-in_default-clause-ok c = no-boot-by-name c.args.bytes.now (search rules)

pub returns-clause-ok : goal.returns-clause-ok
returns-clause-ok c =
    rw c.in_ok-name.ensures
    (boot-starts c.args.bytes.now c.in-Some.name.now c.in-Some.behind.now c.in-Some-2.give c.in-Some-2.rest.now c.in-Some.ensures.some (rw c.in-Some-2.is at c.in_ok-give.ensures.ok))
