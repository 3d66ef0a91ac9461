use Rattle.guest_machine.proofs.LawLemmas.{follow-runs}
use Rattle.guest_machine.proofs.law.runs_follow.Goals as goal

pub returns : goal.returns
returns c = follow-runs
