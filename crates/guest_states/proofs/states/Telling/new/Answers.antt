use Rattle.guest_states.specs.State.{held}
use Rattle.guest_states.proofs.states.Telling.new.Goals as goal

pub returns : goal.returns
unfolding held
returns c = record { members = c.new.ensures; windows = c.new-2.ensures; segments = c.new-3.ensures }
