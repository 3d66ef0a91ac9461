use Rattle.std.proofs.Common.{◌∙◌, ℕ, Option, ap, subst, sym, option_and_then}
use Rattle.arn_base.specs.declared.records.Record.{Record}
use Rattle.arn_base.specs.declared.records.Src.{Src}
use Rattle.history_model.specs.Events.{event_at}
use Rattle.history_model.specs.Exchanges.{founded}
use Rattle.lineage_model.specs.Flow.{Byte}
use Rattle.lineage_model.specs.Joined.{source_byte}
use Rattle.lineage_join.specs.declared.wait.Kind.{Kind}
use Rattle.lineage_join.specs.Added.{HasAdded}
use Rattle.lineage_join.specs.Laws.{reaches}
use Rattle.lineage_join.specs.Waits.{HasAlso, HasPairs, from_wait, kind_by, origin_waits}
use Rattle.lineage_join.proofs.Comes.{waits-also}
use Rattle.lineage_join.proofs.Members.{on-ok}
use Rattle.lineage_join.proofs.Steps.{copy-also, lost-also, source-also}
use Rattle.lineage_join.proofs.step.add_item.Goals as goal

pub returns-in-None-clause-ok : goal.returns-in-None-clause-ok
returns-in-None-clause-ok c =
    λ items fit. lost-also c.args.entries.now items c.requires.indexed.stands fit c.args.item c.args.byte c.args.waiting.now c.args.found.now (sym c.in-None.ensures)

pub returns-then-is_source-clause-ok : goal.returns-then-is_source-clause-ok
returns-then-is_source-clause-ok c =
    on-ok _ _ c.keep.result
    (λ h items fit. source-also c.args.entries.now items c.requires.indexed.stands fit c.args.item c.args.byte c.args.waiting.now c.args.found.now c.keep.new.found c.in-Some.entry.now (sym c.in-Some.ensures) (sym c.is_source.ensures ∙ c.if-is_source.true)
    (subst (λ (n : ℕ). HasPairs c.args.found.now c.args.byte (source_byte c.args.item.event n (Byte c.args.item.at)) c.keep.new.found) c.len_at-len.ensures h))
    c.keep.ensures

pub returns-then-received_from_few-clause-ok : goal.returns-then-received_from_few-clause-ok
returns-then-received_from_few-clause-ok c =
    on-ok _ _ c.add_origin.result
    (λ h items fit. copy-also c.args.entries.now items c.requires.indexed.stands fit c.args.item c.args.byte c.args.waiting.now c.add_origin.new.waiting c.args.found.now c.add_origin.new.found c.in-Some.entry.now (sym c.in-Some.ensures)
    (sym c.is_source.ensures ∙ c.if-is_source.false) (c.received_from_few.ensures.plain c.if-received_from_few.true)
    ((subst (λ (o : Option Src). HasAdded c.args.entries.now c.args.waiting.now c.args.found.now (origin_waits c.args.byte o) c.add_origin.new.waiting c.add_origin.new.found) c.origin_of-origin.ensures h) items fit))
    c.add_origin.ensures.ok

pub returns-else-received_from_few-clause-ok : goal.returns-else-received_from_few-clause-ok
returns-else-received_from_few-clause-ok c =
    let kind = c.kind_at.ensures ∙ ap (λ (o : Option Record). kind_by (option_and_then founded o)) c.in-Some.ensures in
    on-ok _ _ c.add.result
    (λ h items fit. waits-also (from_wait (event_at c.args.entries.now) (reaches c.args.entries.now items)) c.args.waiting.now c.add.new.self c.args.found.now _
    (subst (λ (k : Kind). HasAlso c.args.waiting.now (record { event = c.args.item.event; kind = k; at = c.args.item.at; byte = c.args.byte }) c.add.new.self) kind h))
    c.add.ensures.ok
