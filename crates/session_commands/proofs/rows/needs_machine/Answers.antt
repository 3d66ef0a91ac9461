-- A line that isn't named needs no machine.
use Rattle.std.proofs.Common.{sym}
use Rattle.session_commands.proofs.LineLemmas.{others-need-none}
use Rattle.session_commands.proofs.rows.needs_machine.Goals as goal

pub returns-in_default : goal.returns-in_default
returns-in_default c g history =
    sym (others-need-none g history c.args.line.now c.in_default.not-File c.in_default.not-Boot c.in_default.not-Type c.in_default.not-Run c.in_default.not-Unplug)
