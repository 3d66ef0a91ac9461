use Rattle.std.proofs.Common.{◌-◌, slice_index, sym, subst}
use Rattle.set_store.specs.Sets.{IsUnionOf}
use Rattle.taint_spans.specs.Numbered.{members_of}
use Rattle.taint_flow.proofs.working.in_place.Goals as goal

pub returns-then-second-byte-clause-members : goal.returns-then-second-byte-clause-members
returns-then-second-byte-clause-members c =
    let sets = c.args.sets.now in
    let below = members_of sets c.args.below in
    subst (λ n. IsUnionOf below (members_of sets n) (members_of sets (slice_index c.args.second.now c.args.byte))) (sym c.if-first-byte.true)
    (subst (λ n. IsUnionOf below (members_of sets (slice_index c.args.first.now (c.args.byte - 1))) (members_of sets n)) (sym c.if-second-byte.true) (c.requires.below c.if-byte-gt0.true))
