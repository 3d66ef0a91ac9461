use Rattle.guest_machine.proofs.TookLemmas.{slots-follow, took-by}
use Rattle.guest_machine.proofs.law.slots_follow.Goals as goal

pub returns-clause-follow : goal.returns-clause-follow
returns-clause-follow g c = slots-follow g.D.Device c.turns_have_parts.ensures

pub returns-clause-took : goal.returns-clause-took
returns-clause-took g c = took-by g.D.Device c.turns_have_parts.ensures
