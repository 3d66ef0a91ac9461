use Rattle.result_log.proofs.Starting.{no-slice}
use Rattle.result_log.proofs.get.get_slice.Goals as goal

pub returns-in_err-pid : goal.returns-in_err-pid
returns-in_err-pid c = rw c.from_residual.ensures (no-slice c.args.bytes.now c.in_err-pid.ensures.none)
