use Rattle.std.proofs.Common.{◌≡◌, ℕ, ◌≤◌, [], refl, subst, ◌∙◌}
use Rattle.taint_spans.specs.Carried.{Carried, HasNumber}
use Rattle.taint_spans.specs.Numbered.{IsSet, first_received, members_of}
use Rattle.taint_spans.specs.Sound.{carried_of}
use Rattle.taint_spans.proofs.Carried.{plain-has}
use Rattle.taint_spans.proofs.Standing.{behind-spans, plain-members, plain-set}
use Rattle.taint_spans.proofs.carrying.Carrying.keeps.Goals as goal

pub returns-clause-empty : goal.returns-clause-empty
returns-clause-empty c =
    let inside = c.self.inside in
    subst (λ sets. HasNumber sets 0 0) c.self.view_is (plain-has inside.plain inside.from inside.into 0 0 refl refl c.keeps.ensures.empty)

pub returns-clause-received : goal.returns-clause-received
returns-clause-received c =
    let inside = c.self.inside in
    subst (λ sets. (number : ℕ) → first_received ≤ number → HasNumber sets number number) c.self.view_is
    (λ number least. plain-has inside.plain inside.from inside.into number number (behind-spans number least) (behind-spans number least) (c.keeps.ensures.received number least))

pub returns-clause-set : goal.returns-clause-set
returns-clause-set c =
    let inside = c.self.inside in
    subst (λ (sets : Carried). IsSet sets.into 0) c.self.view_is (plain-set (carried_of inside.plain inside.from inside.into).into 0 refl c.keeps.ensures.set)

pub returns-clause-none : goal.returns-clause-none
returns-clause-none c =
    let inside = c.self.inside in
    subst (λ (sets : Carried). members_of sets.into 0 ≡ []) c.self.view_is (plain-members (carried_of inside.plain inside.from inside.into).into 0 refl ∙ c.keeps.ensures.none)
