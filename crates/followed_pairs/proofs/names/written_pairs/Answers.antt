use Rattle.std.proofs.Common.{List, refl, subst, ◌∙◌}
use Rattle.history_model.specs.Events.{event_at}
use Rattle.lineage_join.specs.Asked.{AreAsked}
use Rattle.lineage_join.specs.declared.demand.Demand.{Demand}
use Rattle.followed_pairs.specs.Leads.{leads, written_leads}
use Rattle.followed_pairs.proofs.Pairs.{ok-both}
use Rattle.followed_pairs.proofs.WriterPairs.{pairs-are}
use Rattle.followed_pairs.proofs.names.written_pairs.Goals as goal

pub returns : goal.returns
returns c =
    let entries = c.args.entries.now in
    let f = c.args.followed.now in
    let bytes = c.args.bytes.now in
    ok-both c.join.result
    (λ pairs are rising. pairs-are (event_at entries) (leads entries f) bytes (written_leads entries f bytes) (λ k. refl) c.pairs_are_one.ensures pairs rising
    (subst (λ (list : List Demand). AreAsked (event_at entries) (leads entries f) list pairs) (c.as_slice.ensures.value ∙ c.in_ok-demands.ensures) are))
    c.join.ensures.asked c.join.ensures.rising
