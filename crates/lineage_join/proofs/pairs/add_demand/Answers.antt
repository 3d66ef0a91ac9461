use Rattle.std.proofs.Common.{subst, sym, OnOk, [], ◌∷◌}
use Rattle.history_model.specs.Events.{event_at}
use Rattle.lineage_join.specs.declared.demand.Demand.{Demand}
use Rattle.lineage_join.specs.Added.{HasAdded}
use Rattle.lineage_join.specs.Laws.{reaches}
use Rattle.lineage_join.specs.Waits.{demanded, from_wait}
use Rattle.lineage_join.proofs.Comes.{waits-also}
use Rattle.lineage_join.proofs.Members.{on-ok}
use Rattle.lineage_join.proofs.pairs.add_demand.Goals as goal

pub returns-in-Event-clause-ok : goal.returns-in-Event-clause-ok
returns-in-Event-clause-ok c =
    subst (λ (d : Demand). OnOk c.add_place.result (HasAdded c.args.entries.now c.args.waiting.now c.args.found.now (demanded (event_at c.args.entries.now) d ∷ []) c.add_place.new.waiting c.args.found.now)) (sym c.in-Event.is)
    (on-ok _ _ c.add_place.result (λ h items fit. waits-also (from_wait (event_at c.args.entries.now) (reaches c.args.entries.now items)) c.args.waiting.now c.add_place.new.waiting c.args.found.now _ h) c.add_place.ensures.ok)

pub returns-in-Item-clause-ok : goal.returns-in-Item-clause-ok
returns-in-Item-clause-ok c =
    subst (λ (d : Demand). OnOk c.add_item.result (HasAdded c.args.entries.now c.args.waiting.now c.args.found.now (demanded (event_at c.args.entries.now) d ∷ []) c.add_item.new.waiting c.add_item.new.found)) (sym c.in-Item.is) c.add_item.ensures.ok
