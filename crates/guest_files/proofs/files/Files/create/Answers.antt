use Rattle.std.proofs.Common.{refl}
use Rattle.guest_files.proofs.FileForms.{no-ok, not-ok, on-err}
use Rattle.guest_files.proofs.files.Files.create.Goals as goal

pub returns-in_err-check_free-clause-made : goal.returns-in_err-check_free-clause-made
returns-in_err-check_free-clause-made c = not-ok _ c.from_residual.result c.from_residual.ensures.0

pub returns-in_err-check_free-clause-number : goal.returns-in_err-check_free-clause-number
returns-in_err-check_free-clause-number c = no-ok _ c.from_residual.result c.from_residual.ensures.0

pub returns-in_err-check_free-clause-err : goal.returns-in_err-check_free-clause-err
returns-in_err-check_free-clause-err c = on-err c.from_residual.result refl

pub returns-in_err-insert-clause-made : goal.returns-in_err-insert-clause-made
returns-in_err-insert-clause-made c = not-ok _ c.from_residual-in_err-insert.result c.from_residual-in_err-insert.ensures.0

pub returns-in_err-insert-clause-number : goal.returns-in_err-insert-clause-number
returns-in_err-insert-clause-number c = no-ok _ c.from_residual-in_err-insert.result c.from_residual-in_err-insert.ensures.0
