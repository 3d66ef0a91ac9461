use Rattle.taint_state.proofs.Carrying.{CarriedTo}
use Rattle.taint_state.proofs.heard.carry_events.Given as goal

abbrev pub invariant-loop-place : goal.invariant-loop-place
invariant-loop-place l = CarriedTo l.fn.carrying l.carrying l.fn.list.items l.list.items l.place
