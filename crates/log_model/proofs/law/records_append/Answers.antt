use Rattle.arn_model.specs.Kernel.{at_first}
use Rattle.log_model.proofs.RecordLemmas.{records_from-append}
use Rattle.log_model.proofs.law.records_append.Goals as goal

pub returns : goal.returns
returns c inputs more = records_from-append at_first inputs more
