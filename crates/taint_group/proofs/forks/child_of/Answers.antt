use Rattle.std.proofs.Common.{◌≡◌, None, refl}
use Rattle.taint_group.specs.Moves.{HasChild}
use Rattle.taint_group.proofs.Turning.{of-none, ok-there}
use Rattle.taint_group.proofs.forks.child_of.Goals as goal

pub bounds-members-place : goal.bounds-members-place
bounds-members-place c = c.if-place-members.true

pub returns-else-place-members-clause-child : goal.returns-else-place-members-clause-child
returns-else-place-members-clause-child c = of-none (λ o. HasChild c.args.memories.now o None) c.args.members.now c.args.pid c.if-place-members.false tt

pub returns-else-place-members-clause-none : goal.returns-else-place-members-clause-none
returns-else-place-members-clause-none c = λ e. refl

pub returns-then-place-members-clause-none : goal.returns-then-place-members-clause-none
returns-then-place-members-clause-none c =
    ok-there c.entry_child.result (λ o child. o ≡ None → child ≡ None) c.args.members.now c.args.pid c.index-members-place.result c.index-members-place.is c.if-place-members.true c.entry_child.ensures.none
