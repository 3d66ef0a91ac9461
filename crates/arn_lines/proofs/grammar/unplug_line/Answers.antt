use Rattle.arn_lines.proofs.Keywords.{no_unplug_line}
use Rattle.arn_lines.proofs.grammar.unplug_line.Goals as goal

pub returns-in_err-device-clause-none : goal.returns-in_err-device-clause-none
returns-in_err-device-clause-none c =
    rw c.from_residual.ensures (no_unplug_line c.args.text.now c.in_err-device.ensures.none)
