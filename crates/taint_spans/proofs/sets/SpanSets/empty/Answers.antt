use Rattle.std.proofs.Common.{◌≡◌, [], refl, subst, ◌∙◌}
use Rattle.taint_sets.specs.Numbered as plain
use Rattle.taint_spans.specs.Numbered.{IsSet, Numbered, members_of}
use Rattle.taint_spans.specs.Sound.{lists_of}
use Rattle.taint_spans.proofs.Standing.{plain-members, plain-set}
use Rattle.taint_spans.proofs.sets.SpanSets.empty.Goals as goal

pub returns-clause-set : goal.returns-clause-set
returns-clause-set c =
    let sets : Numbered = record { sets = c.self.inside.sets; spans = lists_of c.self.inside.sets c.self.inside.spans } in
    subst (λ s. IsSet s 0) c.self.view_is (plain-set sets 0 refl (subst (plain.IsSet c.self.inside.sets) c.empty.ensures.zero c.empty.ensures.set))

pub returns-clause-empty : goal.returns-clause-empty
returns-clause-empty c =
    let sets : Numbered = record { sets = c.self.inside.sets; spans = lists_of c.self.inside.sets c.self.inside.spans } in
    subst (λ s. members_of s 0 ≡ []) c.self.view_is (plain-members sets 0 refl ∙ subst (λ n. plain.members_of c.self.inside.sets n ≡ []) c.empty.ensures.zero c.empty.ensures.empty)
