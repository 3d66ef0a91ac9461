use Rattle.result_log.proofs.Starting.{no-unplug}
use Rattle.result_log.proofs.get.get_unplug.Goals as goal

pub returns-in_err-device : goal.returns-in_err-device
returns-in_err-device c = rw c.from_residual.ensures (no-unplug c.args.bytes.now c.in_err-device.ensures.none)
