use Rattle.result_log.proofs.Starting.{no-signal}
use Rattle.result_log.proofs.get.get_signal.Goals as goal

pub returns-in_err-delivery : goal.returns-in_err-delivery
returns-in_err-delivery c = rw c.from_residual.ensures (no-signal c.args.bytes.now c.in_err-delivery.ensures.none)
