use Rattle.taint_group.specs.Turns.{HasStatus}
use Rattle.taint_group.proofs.Turning.{ok-none, ok-there}
use Rattle.taint_group.proofs.ends.exit_numbers.Goals as goal

pub bounds-members-place : goal.bounds-members-place
bounds-members-place c = c.if-place-members.true

pub returns-then-place-members : goal.returns-then-place-members
returns-then-place-members c = ok-there c.entry_numbers.result (λ o numbers. HasStatus o c.args.len numbers.items) c.args.members.now c.args.pid c.index-members-place.result c.index-members-place.is c.if-place-members.true c.entry_numbers.ensures

pub returns-else-place-members : goal.returns-else-place-members
returns-else-place-members c = ok-none c.empty.result (λ o numbers. HasStatus o c.args.len numbers.items) (λ numbers. tt) c.args.members.now c.args.pid c.if-place-members.false
