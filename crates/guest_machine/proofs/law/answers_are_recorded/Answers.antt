use Rattle.guest_machine.proofs.AskedLemmas.{slice-holds}
use Rattle.guest_machine.proofs.law.answers_are_recorded.Goals as goal

pub returns : goal.returns
returns g c = slice-holds c.turns_have_parts.ensures g.A.Answers.answers
