-- A line asks for what it reads as, and fits.
use Rattle.std.proofs.lemmas.Result.{IfOk-weaker}
use Rattle.arn_commands.proofs.KeptLemmas.{Reads-kept}
use Rattle.arn_commands.proofs.command.Command.of_line.Goals as goal

pub returns-clause-asks : goal.returns-clause-asks
returns-clause-asks c =
    let reading = c.in_ok-reading.reading in
    IfOk-weaker c.of_reading.result _ _ (λ command is whole kept.
    (reading, Reads-kept whole c.args.line.now reading kept c.in_ok-reading.ensures.ok c.in_ok-reading.ensures.longer, is)) c.of_reading.ensures.asks

pub returns-clause-fits : goal.returns-clause-fits
returns-clause-fits c = IfOk-weaker c.of_reading.result _ _ (λ command fits. fits c.args.line.now c.in_ok-reading.ensures.ok) c.of_reading.ensures.fits
