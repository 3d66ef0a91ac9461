use Rattle.std.proofs.Common.{refl}
use Rattle.std.proofs.lemmas.List.{length-set}
use Rattle.taint_group.specs.Turns.{LeavesAs, LivesAs}
use Rattle.taint_group.proofs.Turning.{changes-in, changes-none}
use Rattle.taint_group.proofs.turns.leave_member.Goals as goal

pub bounds-members-place : goal.bounds-members-place
bounds-members-place c = c.if-place-members.true

pub returns-then-place-members-clause-leaves : goal.returns-then-place-members-clause-leaves
returns-then-place-members-clause-leaves c = changes-in (LivesAs LeavesAs) c.args.pid c.args.members.now c.index-members-place.result c.leave_entry.new.entry c.if-place-members.true c.leave_entry.ensures

pub returns-else-place-members-clause-leaves : goal.returns-else-place-members-clause-leaves
returns-else-place-members-clause-leaves c = changes-none (LivesAs LeavesAs) c.args.pid c.args.members.now c.args.members.now c.if-place-members.false

pub returns-then-place-members-clause-count : goal.returns-then-place-members-clause-count
returns-then-place-members-clause-count c = length-set c.args.members.now c.args.pid c.leave_entry.new.entry

pub returns-else-place-members-clause-count : goal.returns-else-place-members-clause-count
returns-else-place-members-clause-count c = refl
