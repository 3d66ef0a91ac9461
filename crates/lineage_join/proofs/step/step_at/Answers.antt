use Rattle.std.proofs.Common.{ℕ, sym, ◌∙◌, subst}
use Rattle.lineage_join.specs.Waits.{HasPairs, own_bytes}
use Rattle.lineage_join.proofs.Members.{on-ok}
use Rattle.lineage_join.proofs.Steps.{source-stepped}
use Rattle.lineage_join.proofs.step.step_at.Goals as goal

pub returns-then-is_source-clause-ok : goal.returns-then-is_source-clause-ok
returns-then-is_source-clause-ok g c =
    on-ok _ _ c.keep_source.result
    (λ h. source-stepped c.args.entries.now (g.P.Locals.items c.args.locals.now) c.requires.indexed.stands c.requires.fit c.args.waiting.now c.args.found.now c.keep_source.new.found c.args.wait c.args.entry.now c.requires.there (sym c.is_source.ensures ∙ c.if-is_source.true)
    (subst (λ (n : ℕ). HasPairs c.args.found.now c.args.wait.byte (own_bytes c.args.wait.event n c.args.wait.at c.args.wait.kind) c.keep_source.new.found) c.len_at-len.ensures h))
    c.keep_source.ensures
