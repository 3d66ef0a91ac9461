use Rattle.guest_machine.proofs.LawLemmas.{follow-named}
use Rattle.guest_machine.proofs.law.named_follow.Goals as goal

pub returns : goal.returns
returns c = follow-named c.named_runs_again.ensures
