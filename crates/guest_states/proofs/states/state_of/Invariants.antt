use Rattle.std.proofs.Common.{take}
use Rattle.guest_bodies.specs.Shown.{seen_in}
use Rattle.guest_states.specs.State.{holders}
use Rattle.guest_states.specs.Told.{Tells}
use Rattle.guest_states.proofs.states.state_of.Given as goal

abbrev pub invariant-loop-pid : goal.invariant-loop-pid
invariant-loop-pid l = Tells l.telling (holders (seen_in l.bodies) (take l.pid-index l.pids))
