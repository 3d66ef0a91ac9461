use Rattle.log_model.proofs.RunLemmas.{behind-append, named-append, records_from-begin}
use Rattle.log_model.proofs.law.named_append.Goals as goal

pub returns-clause-named : goal.returns-clause-named
returns-clause-named c = named-append

pub returns-clause-behind : goal.returns-clause-behind
returns-clause-behind c = behind-append

pub returns-clause-begin : goal.returns-clause-begin
returns-clause-begin c = records_from-begin
