use Rattle.std.proofs.Common.{Option, OnOk, option_map, subst, sym}
use Rattle.set_store.specs.declared.item.Item.{Item}
use Rattle.history_model.specs.Events.{event_at}
use Rattle.lineage_join.specs.Added.{HasAdded}
use Rattle.lineage_join.specs.Laws.{reaches}
use Rattle.lineage_join.specs.Waits.{from_wait, origin_waits}
use Rattle.lineage_join.proofs.Comes.{none-also}
use Rattle.lineage_join.proofs.step.add_origin.Goals as goal

pub returns-in-None-clause-ok : goal.returns-in-None-clause-ok
returns-in-None-clause-ok c =
    subst (λ (o : Option Item). HasAdded c.args.entries.now c.args.waiting.now c.args.found.now (origin_waits c.args.byte (option_map (λ (i : Item). record { event = i.event; at = i.at }) o)) c.args.waiting.now c.args.found.now) (sym c.in-None.is)
    (λ items fit. none-also (from_wait (event_at c.args.entries.now) (reaches c.args.entries.now items)) c.args.waiting.now c.args.found.now)

pub returns-in-Some-clause-ok : goal.returns-in-Some-clause-ok
returns-in-Some-clause-ok c =
    subst (λ (o : Option Item). OnOk c.add_shown.result (HasAdded c.args.entries.now c.args.waiting.now c.args.found.now (origin_waits c.args.byte (option_map (λ (i : Item). record { event = i.event; at = i.at }) o)) c.add_shown.new.waiting c.add_shown.new.found)) (sym c.in-Some.is)
    c.add_shown.ensures.ok
