-- What a line says fits.
use Rattle.std.proofs.Common.{subst}
use Rattle.arn_lines.specs.declared.line.LineReading.{LineReading}
use Rattle.arn_lines.specs.Grammar.{Reads}
use Rattle.arn_commands.proofs.SizeLemmas.{line-fits}
use Rattle.arn_commands.proofs.command.Command.of_reading.Goals as goal

pub returns-in-Says-clause-fits : goal.returns-in-Says-clause-fits
returns-in-Says-clause-fits c text reads =
    let said = subst (λ (reading : LineReading). Reads text reading) c.in-Says.is reads in
    line-fits text c.in-Says.line said.0 said.1
