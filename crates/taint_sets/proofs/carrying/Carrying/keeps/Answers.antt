use Rattle.std.proofs.Common.{◌≡◌, ◌≤◌, [], ℕ, sym, subst, ◌∙◌, arith}
use Rattle.set_store.specs.Sets as stored
use Rattle.taint_sets.specs.Carried.{Carried, HasNumber}
use Rattle.taint_sets.specs.Numbered.{IsSet, first_received, members_of}
use Rattle.taint_sets.proofs.Carried.{kept-has, received-stays}
use Rattle.taint_sets.proofs.Standing.{kept-members, set-kept}
use Rattle.taint_sets.proofs.carrying.Carrying.keeps.Goals as goal

pub returns-clause-empty : goal.returns-clause-empty
returns-clause-empty c =
    let into = c.self.inside.into in
    let from = c.self.inside.from in
    let set : IsSet into 0 = subst (IsSet into) c.empty.ensures.zero c.empty.ensures.set in
    let fresh : members_of into 0 ≡ [] = subst (λ n. members_of into n ≡ []) c.empty.ensures.zero c.empty.ensures.empty in
    let before : stored.members_of from 0 ≡ [] = subst (λ n. stored.members_of from n ≡ []) c.empty-2.ensures.zero c.empty-2.ensures.empty in
    subst (λ sets. HasNumber sets 0 0) c.self.view_is
    (kept-has from into.kept into.runs 0 0 (omega arith) (omega arith) (set-kept into 0 (omega arith) set) (sym (kept-members into 0 (omega arith)) ∙ fresh ∙ sym before))

pub returns-clause-received : goal.returns-clause-received
returns-clause-received c =
    subst (λ sets. (number : ℕ) → first_received ≤ number → HasNumber sets number number) c.self.view_is (received-stays c.self.inside.from c.self.inside.into.kept c.self.inside.into.runs)

pub returns-clause-set : goal.returns-clause-set
returns-clause-set c =
    let into = c.self.inside.into in
    subst (λ (sets : Carried). IsSet sets.into 0) c.self.view_is (subst (IsSet into) c.empty.ensures.zero c.empty.ensures.set)

pub returns-clause-none : goal.returns-clause-none
returns-clause-none c =
    let into = c.self.inside.into in
    subst (λ (sets : Carried). members_of sets.into 0 ≡ []) c.self.view_is (subst (λ n. members_of into n ≡ []) c.empty.ensures.zero c.empty.ensures.empty)
