use Rattle.std.proofs.Common.{ap, arith, subst, sym, List, Option, ◌≡◌, ◌≤◌}
use Rattle.arn_base.specs.declared.records.Src.{Src}
use Rattle.set_store.specs.declared.item.Item.{Item}
use Rattle.taint_state.specs.Shown.{AreItems}
use Rattle.history_model.specs.Events.{event_at}
use Rattle.lineage_model.specs.Flow.{Byte}
use Rattle.lineage_join.specs.Added.{HasAdded}
use Rattle.lineage_join.specs.Laws.{reaches}
use Rattle.lineage_join.specs.Places.{start_at}
use Rattle.lineage_join.specs.Waits.{from_kind, origin_waits, rank}
use Rattle.lineage_join.proofs.Follow.{received-stepped, items-stepped}
use Rattle.lineage_join.proofs.Members.{on-ok}
use Rattle.lineage_join.proofs.step.follow.Goals as goal

pub returns-in-Received-clause-ok : goal.returns-in-Received-clause-ok
returns-in-Received-clause-ok g c =
    let items = g.P.Locals.items c.args.locals.now in
    on-ok _ _ c.add_origin.result
    (λ h. received-stepped c.args.entries.now items c.requires.indexed.stands c.requires.fit c.args.wait c.args.entry.now c.in-Received.is c.requires.there c.requires.plain c.args.waiting.now c.add_origin.new.waiting c.args.found.now c.add_origin.new.found
    ((subst (λ (o : Option Src). HasAdded c.args.entries.now c.args.waiting.now c.args.found.now (origin_waits c.args.wait.byte o) c.add_origin.new.waiting c.add_origin.new.found) c.origin_of-origin.ensures h) items c.requires.fit))
    c.add_origin.ensures.ok

pub returns-in_ok-items-in-Byte-clause-ok : goal.returns-in_ok-items-in-Byte-clause-ok
returns-in_ok-items-in-Byte-clause-ok g c =
    let items = g.P.Locals.items c.args.locals.now in
    let rank_is : rank c.args.wait.kind ≡ 1 = ap rank c.in-Byte.is in
    let high : 1 ≤ rank c.args.wait.kind = omega arith in
    on-ok _ _ c.add_items.result
    (λ h. items-stepped c.args.entries.now items c.requires.indexed.stands c.requires.fit c.args.wait (Byte c.args.wait.at) c.as_slice.result.now (subst (λ (list : List Item). AreItems list (items c.args.wait.event (Byte c.args.wait.at))) (sym c.as_slice.ensures.value) c.in_ok-items-in-Byte.ensures)
    c.args.waiting.now c.add_items.new.waiting c.args.found.now c.add_items.new.found c.args.entry.now (ap (from_kind (event_at c.args.entries.now) (reaches c.args.entries.now items) c.args.wait.event c.args.wait.at) c.in-Byte.is) high c.requires.there c.requires.plain (h items c.requires.fit))
    c.add_items.ensures.ok

pub returns-in_ok-items-in-Start-clause-ok : goal.returns-in_ok-items-in-Start-clause-ok
returns-in_ok-items-in-Start-clause-ok g c =
    let items = g.P.Locals.items c.args.locals.now in
    let rank_is : rank c.args.wait.kind ≡ 2 = ap rank c.in-Start.is in
    let high : 1 ≤ rank c.args.wait.kind = omega arith in
    on-ok _ _ c.add_items-in-Start.result
    (λ h. items-stepped c.args.entries.now items c.requires.indexed.stands c.requires.fit c.args.wait (start_at c.args.wait.at) c.as_slice-in-Start.result.now (subst (λ (list : List Item). AreItems list (items c.args.wait.event (start_at c.args.wait.at))) (sym c.as_slice-in-Start.ensures.value) c.in_ok-items-in-Start.ensures)
    c.args.waiting.now c.add_items-in-Start.new.waiting c.args.found.now c.add_items-in-Start.new.found c.args.entry.now (ap (from_kind (event_at c.args.entries.now) (reaches c.args.entries.now items) c.args.wait.event c.args.wait.at) c.in-Start.is) high c.requires.there c.requires.plain (h items c.requires.fit))
    c.add_items-in-Start.ensures.ok
