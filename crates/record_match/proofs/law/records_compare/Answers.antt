use Rattle.record_match.specs.Differs.{same_record}
use Rattle.record_match.proofs.SameRecord.{record-Decides}
use Rattle.record_match.proofs.law.records_compare.Goals as goal

pub returns : goal.returns
unfolding same_record
returns c = λ a b. record-Decides a b
