use Rattle.std.proofs.Common.{subst}
use Rattle.taint_state.specs.Heard.{AreInOrder}
use Rattle.taint_state.proofs.Ordered.{insert-hears, insert-in-order, set-hears, set-in-order}
use Rattle.taint_state.proofs.heard.HeardEvents.put.Goals as goal

pub invariant_of-self : goal.invariant_of-self
invariant_of-self c = set-in-order _ c.self.invariant _ _ (rw c.self.view_is c.in-Ok.ensures.found)

pub returns-in-Ok : goal.returns-in-Ok
returns-in-Ok c = rw c.self.view_is (set-hears _ (subst AreInOrder c.self.view_is c.self.invariant) _ _ c.in-Ok.ensures.found)

pub invariant_of-self-in-Err : goal.invariant_of-self-in-Err
invariant_of-self-in-Err c = rw c.in_ok-insert-in-Err.ensures.items (insert-in-order _ _ _ (rw c.self.view_is c.in-Err.ensures.missing) c.self.invariant)

pub returns-in_ok-insert-in-Err : goal.returns-in_ok-insert-in-Err
returns-in_ok-insert-in-Err c = rw (c.in_ok-insert-in-Err.ensures.items, c.self.view_is) (insert-hears _ _ _ c.in-Err.ensures.missing)
