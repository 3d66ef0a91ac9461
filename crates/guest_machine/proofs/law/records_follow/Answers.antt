use Rattle.guest_machine.proofs.LawLemmas.{follow-records}
use Rattle.guest_machine.proofs.law.records_follow.Goals as goal

pub returns : goal.returns
returns c = follow-records
