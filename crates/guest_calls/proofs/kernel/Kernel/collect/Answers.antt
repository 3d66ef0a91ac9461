use Rattle.std.proofs.Common.{refl}
use Rattle.guest_calls.proofs.Returned.{no-ok, on-err}
use Rattle.guest_calls.proofs.kernel.Kernel.collect.Goals as goal

pub returns-in_err-give-clause-carried : goal.returns-in_err-give-clause-carried
returns-in_err-give-clause-carried c = no-ok _ c.from_residual.result c.from_residual.ensures.0

pub returns-in_err-give-clause-short : goal.returns-in_err-give-clause-short
returns-in_err-give-clause-short c = no-ok _ c.from_residual.result c.from_residual.ensures.0

pub returns-in_err-give-clause-err : goal.returns-in_err-give-clause-err
returns-in_err-give-clause-err c = on-err c.from_residual.result refl

pub returns-in_err-spare-clause-carried : goal.returns-in_err-spare-clause-carried
returns-in_err-spare-clause-carried c = no-ok _ c.from_residual-in_err-spare.result c.from_residual-in_err-spare.ensures.0

pub returns-in_err-spare-clause-short : goal.returns-in_err-spare-clause-short
returns-in_err-spare-clause-short c = no-ok _ c.from_residual-in_err-spare.result c.from_residual-in_err-spare.ensures.0

pub returns-in_err-spare-clause-err : goal.returns-in_err-spare-clause-err
returns-in_err-spare-clause-err c = on-err c.from_residual-in_err-spare.result refl
