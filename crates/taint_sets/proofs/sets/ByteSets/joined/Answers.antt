use Rattle.std.proofs.Common.{ap, subst, ◌∙◌}
use Rattle.set_store.specs.Sets as stored
use Rattle.set_store.specs.Sets.{IsUnionOf}
use Rattle.taint_sets.specs.Numbered.{Numbered, StandAsBefore, members_of}
use Rattle.taint_sets.proofs.Standing.{kept-grown, narrowed-set, narrowed-union, stand-trans}
use Rattle.taint_sets.proofs.sets.ByteSets.joined.Goals as goal

pub returns-in_err-union-clause-before : goal.returns-in_err-union-clause-before
returns-in_err-union-clause-before c =
    let after : Numbered = record { kept = c.union.new.self; runs = c.self.inside.runs.items } in
    stand-trans c.args.self.now c.keep-2.new.self after (stand-trans c.args.self.now c.keep.new.self c.keep-2.new.self c.keep.ensures.before c.keep-2.ensures.before)
    (subst (λ sets. StandAsBefore sets after) c.self.view_is (kept-grown c.self.inside.kept c.union.new.self c.self.inside.runs.items c.union.ensures.before))

pub returns-clause-set : goal.returns-clause-set
returns-clause-set c = narrowed-set c.narrow.result (record { kept = c.union.new.self; runs = c.self.inside.runs.items }) c.in_ok-union.field-0 c.in_ok-union.ensures.set c.narrow.ensures

pub returns-clause-members : goal.returns-clause-members
returns-clause-members c =
    let new = c.union.new.self in
    let set = c.in_ok-union.field-0 in
    let kept = ap (λ (sets : Numbered). sets.kept) c.self.view_is in
    let first = ap (λ l. stored.members_of l c.in_ok-first.first) kept ∙ (c.keep-2.ensures.kept.same c.in_ok-first.first c.in_ok-first.ensures.there ∙ c.in_ok-first.ensures.members) in
    let second = ap (λ l. stored.members_of l c.in_ok-second.second) kept ∙ (c.in_ok-second.ensures.members ∙ c.keep.ensures.before.same c.args.second c.requires.second) in
    narrowed-union c.narrow.result (record { kept = new; runs = c.self.inside.runs.items }) set (members_of c.args.self.now c.args.first) (members_of c.args.self.now c.args.second) c.in_ok-union.ensures.set
    (subst (λ l. IsUnionOf (stored.members_of new set) l (members_of c.args.self.now c.args.second)) first
    (subst (λ l. IsUnionOf (stored.members_of new set) (stored.members_of c.self.inside.kept c.in_ok-first.first) l) second c.in_ok-union.ensures.members))
    c.narrow.ensures

pub returns-clause-before : goal.returns-clause-before
returns-clause-before c =
    let after : Numbered = record { kept = c.union.new.self; runs = c.self.inside.runs.items } in
    stand-trans c.args.self.now c.keep-2.new.self after (stand-trans c.args.self.now c.keep.new.self c.keep-2.new.self c.keep.ensures.before c.keep-2.ensures.before)
    (subst (λ sets. StandAsBefore sets after) c.self.view_is (kept-grown c.self.inside.kept c.union.new.self c.self.inside.runs.items c.union.ensures.before))
