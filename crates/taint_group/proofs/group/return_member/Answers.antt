use Rattle.std.proofs.Common.{refl}
use Rattle.std.proofs.lemmas.List.{length-set}
use Rattle.taint_group.proofs.Groups.{returns-in, returns-none}
use Rattle.taint_group.proofs.group.return_member.Goals as goal

pub bounds-members-place : goal.bounds-members-place
bounds-members-place c = c.if-place-members.true

pub returns-then-place-members-clause-returns : goal.returns-then-place-members-clause-returns
returns-then-place-members-clause-returns c = returns-in c.args.pid c.args.members.now c.index-members-place.result c.return_entry.new.entry c.if-place-members.true c.return_entry.ensures

pub returns-else-place-members-clause-returns : goal.returns-else-place-members-clause-returns
returns-else-place-members-clause-returns c = returns-none c.args.pid c.args.members.now c.args.members.now c.if-place-members.false

pub returns-then-place-members-clause-count : goal.returns-then-place-members-clause-count
returns-then-place-members-clause-count c = length-set c.args.members.now c.args.pid c.return_entry.new.entry

pub returns-else-place-members-clause-count : goal.returns-else-place-members-clause-count
returns-else-place-members-clause-count c = refl
