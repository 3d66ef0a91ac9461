use Rattle.guest_machine.proofs.LawLemmas.{few-room}
use Rattle.guest_machine.proofs.law.records_leave_room.Goals as goal

pub returns : goal.returns
returns c = few-room c.records_bound.ensures
