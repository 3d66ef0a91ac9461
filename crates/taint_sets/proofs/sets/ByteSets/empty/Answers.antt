use Rattle.std.proofs.Common.{◌≡◌, [], subst, ◌∙◌, arith}
use Rattle.set_store.specs.Sets as stored
use Rattle.taint_sets.specs.Numbered.{IsSet, members_of}
use Rattle.taint_sets.proofs.Standing.{kept-set}
use Rattle.taint_sets.proofs.sets.ByteSets.empty.Goals as goal

pub returns-clause-set : goal.returns-clause-set
returns-clause-set c =
    let inside = c.self.inside in
    let is = kept-set (record { kept = inside.kept; runs = inside.runs.items }) 0 (omega arith) (subst (stored.IsSet inside.kept) c.empty.ensures.zero c.empty.ensures.set) in
    subst (λ sets. IsSet sets 0) c.self.view_is is.0

pub returns-clause-empty : goal.returns-clause-empty
returns-clause-empty c =
    let inside = c.self.inside in
    let is = kept-set (record { kept = inside.kept; runs = inside.runs.items }) 0 (omega arith) (subst (stored.IsSet inside.kept) c.empty.ensures.zero c.empty.ensures.set) in
    subst (λ sets. members_of sets 0 ≡ []) c.self.view_is (is.1 ∙ subst (λ n. stored.members_of inside.kept n ≡ []) c.empty.ensures.zero c.empty.ensures.empty)
