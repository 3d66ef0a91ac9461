use Rattle.std.proofs.Common.{List, refl, subst, ◌∙◌}
use Rattle.history_model.specs.Events.{event_at}
use Rattle.lineage_join.specs.Asked.{AreAsked}
use Rattle.lineage_join.specs.declared.demand.Demand.{Demand}
use Rattle.followed_pairs.specs.Leads.{event_leads, leads}
use Rattle.followed_pairs.proofs.Pairs.{ok-both, pairs-are}
use Rattle.followed_pairs.proofs.events.event_pairs.Goals as goal

pub returns : goal.returns
returns c =
    let entries = c.args.entries.now in
    let f = c.args.followed.now in
    let asked = c.args.asked in
    ok-both c.join.result
    (λ pairs are rising. pairs-are (event_at entries) (leads entries f) asked.event asked.from asked.len (event_leads entries f asked) (λ k low. refl) c.pairs_are_one.ensures pairs rising
    (subst (λ (list : List Demand). AreAsked (event_at entries) (leads entries f) list pairs) (c.as_slice.ensures.value ∙ c.in_ok-demands.ensures) are))
    c.join.ensures.asked c.join.ensures.rising
