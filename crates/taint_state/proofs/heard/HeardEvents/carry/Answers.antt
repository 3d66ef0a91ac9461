use Rattle.std.proofs.Common.{sym}
use Rattle.taint_state.specs.Carried.{CarriesList}
use Rattle.taint_state.proofs.Carrying.{events-among, on-ok, order-kept}
use Rattle.taint_state.proofs.heard.HeardEvents.carry.Goals as goal

pub invariant_of-self : goal.invariant_of-self
invariant_of-self c = order-kept c.self.inside.list.items c.carry_events.new.list.items c.carry_events.ensures.kept c.self.invariant

pub returns-clause-carried : goal.returns-clause-carried
returns-clause-carried c =
    let old = c.self.inside.list.items in
    let new = c.carry_events.new.list.items in
    rw (sym c.self.view_is) (on-ok c.carry_events.result (λ (carries : CarriesList c.carry_events.new.carrying old new). events-among c.carry_events.new.carrying old new carries) c.carry_events.ensures.carried)
