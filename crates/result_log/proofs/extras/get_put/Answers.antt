use Rattle.std.proofs.Common.{rules}
use Rattle.result_log.proofs.Options.{OnErr-always}
use Rattle.result_log.proofs.Starting.{no-put, put_stands}
use Rattle.result_log.proofs.extras.get_put.Goals as goal

pub returns-in_default-clause-ok : goal.returns-in_default-clause-ok
returns-in_default-clause-ok c = no-put c.args.bytes.now (search rules)

pub returns-in_err-bytes-clause-err : goal.returns-in_err-bytes-clause-err
returns-in_err-bytes-clause-err c =
    let p = c.in-Some.parts in
    OnErr-always c.from_residual.result (put_stands c.args.bytes.now p.file p.at p.written.now p.rest.now (search rules))
