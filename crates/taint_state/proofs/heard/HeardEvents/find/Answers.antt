use Rattle.std.proofs.Common.{sym, subst, arith}
use Rattle.std.proofs.lemmas.List.{get_or_default}
use Rattle.taint_state.specs.Heard.{AreInOrder}
use Rattle.taint_state.proofs.Ordered.{found-nowhere, found-there, none_heard}
use Rattle.taint_state.proofs.heard.HeardEvents.find.Goals as goal

pub returns-in-Ok : goal.returns-in-Ok
returns-in-Ok c =
    let there = found-there _ (subst AreInOrder c.self.view_is c.self.invariant) _ _ c.in-Ok.ensures.found in
    let read = get_or_default _ _ c.index.result.now none_heard c.in-Ok.ensures.found.there in
    grind (arith, c.self.view_is)

pub returns-in-Err : goal.returns-in-Err
returns-in-Err c = sym (found-nowhere _ _ _ c.in-Err.ensures.missing)
