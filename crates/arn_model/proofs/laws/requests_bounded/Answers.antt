use Rattle.arn_model.proofs.Counts.{processes-count, request-bounded}
use Rattle.arn_model.proofs.laws.requests_bounded.Goals as goal

pub returns-clause-bounded : goal.returns-clause-bounded
returns-clause-bounded c = request-bounded

pub returns-clause-count : goal.returns-clause-count
returns-clause-count c = processes-count
