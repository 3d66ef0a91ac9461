use Rattle.guest_resources.proofs.Rooms.{IsHolding}
use Rattle.guest_resources.proofs.resources.Resources.hold_all.Given as goal

abbrev pub invariant-loop-found : goal.invariant-loop-found
invariant-loop-found l = IsHolding l.descriptors l.found-index l.initial.self l.self
