use Rattle.std.proofs.Common.{List, ap, subst, sym, unwrap_or, ◌∙◌}
use Rattle.arn_base.specs.declared.records.Pair.{Pair}
use Rattle.history_model.specs.Events.{event_at}
use Rattle.lineage_join.specs.Asked.{AreAsked}
use Rattle.lineage_join.specs.Laws.{reaches}
use Rattle.lineage_join.specs.declared.demand.Demand.{Demand}
use Rattle.followed_pairs.specs.Demands.{byte_demands}
use Rattle.followed_groups.specs.Following.{items_followed}
use Rattle.followed_pairs.proofs.Outward.{at-turned, len-in-is}
use Rattle.followed_pairs.proofs.Taking.{on-map}
use Rattle.followed_pairs.proofs.sinks.add_sink.Goals as goal

pub returns : goal.returns
returns c =
    let entries = c.args.entries.now in
    let reach = reaches entries (items_followed c.args.followed.now) in
    let len = c.unwrap_or-len.result in
    let long = c.unwrap_or-len.ensures ∙ ap (λ o. unwrap_or o 0) (c.event_len.ensures entries c.requires.indexed) ∙ len-in-is (event_at entries c.args.sink) in
    let asked =
    subst (λ (ps : List Pair). AreAsked (event_at entries) reach (byte_demands c.args.sink 0 len) ps) (sym c.as_slice-2.ensures)
    (subst (λ (ds : List Demand). AreAsked (event_at entries) reach ds c.in_ok-reached.reached) (c.as_slice.ensures.value ∙ c.in_ok-demands.ensures) c.in_ok-reached.ensures.asked) in
    on-map c.add_all.result
    (at-turned entries reach c.args.asked c.args.sink (event_at entries c.args.sink) len c.as_slice-2.result.now c.args.found.now c.add_all.new.found long asked)
    c.add_all.ensures
