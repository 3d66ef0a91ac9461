use Rattle.std.proofs.Common.{◌∙◌, ℕ, subst, sym}
use Rattle.history_model.specs.Events.{event_at}
use Rattle.lineage_model.specs.Flow.{Byte}
use Rattle.lineage_model.specs.Joined.{source_byte}
use Rattle.lineage_join.specs.Laws.{reaches}
use Rattle.lineage_join.specs.Waits.{HasPairs, from_wait}
use Rattle.lineage_join.proofs.Comes.{waits-also}
use Rattle.lineage_join.proofs.Members.{on-ok}
use Rattle.lineage_join.proofs.Steps.{shown-also}
use Rattle.lineage_join.proofs.step.add_shown.Goals as goal

pub returns-then-is_source-clause-ok : goal.returns-then-is_source-clause-ok
returns-then-is_source-clause-ok c =
    on-ok _ _ c.keep.result
    (λ h items fit. shown-also c.args.entries.now items c.requires.indexed.stands fit c.args.waiting.now c.args.found.now c.keep.new.found c.args.shown.event c.args.shown.at c.args.byte c.in-Some.entry.now (sym c.in-Some.ensures) (sym c.is_source.ensures ∙ c.if-is_source.true)
    (subst (λ (n : ℕ). HasPairs c.args.found.now c.args.byte (source_byte c.args.shown.event n (Byte c.args.shown.at)) c.keep.new.found) c.len_at-len.ensures h))
    c.keep.ensures

pub returns-clause-ok : goal.returns-clause-ok
returns-clause-ok c =
    on-ok _ _ c.add.result
    (λ h items fit. waits-also (from_wait (event_at c.args.entries.now) (reaches c.args.entries.now items)) c.args.waiting.now c.add.new.self c.args.found.now _ h)
    c.add.ensures.ok
