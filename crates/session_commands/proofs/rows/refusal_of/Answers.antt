-- A line that isn't named isn't refused.
use Rattle.std.proofs.Common.{sym}
use Rattle.session_commands.specs.Given.{given}
use Rattle.session_commands.proofs.LineLemmas.{others-are-answered}
use Rattle.session_commands.proofs.rows.refusal_of.Goals as goal

pub returns-in_default : goal.returns-in_default
returns-in_default g c told =
    sym (others-are-answered (given told (g.A.Plugs.filled c.args.answers.now)) c.args.entries.now c.args.line.now c.in_default.not-File c.in_default.not-Boot c.in_default.not-Type c.in_default.not-Run c.in_default.not-Unplug)
