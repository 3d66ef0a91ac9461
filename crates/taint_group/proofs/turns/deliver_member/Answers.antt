use Rattle.std.proofs.Common.{refl}
use Rattle.std.proofs.lemmas.List.{length-set}
use Rattle.taint_group.specs.Turns.{DeliversAs, LivesAs}
use Rattle.taint_group.proofs.Turning.{changes-in, changes-none}
use Rattle.taint_group.proofs.turns.deliver_member.Goals as goal

pub bounds-members-place : goal.bounds-members-place
bounds-members-place c = c.if-place-members.true

pub returns-then-place-members-clause-delivers : goal.returns-then-place-members-clause-delivers
returns-then-place-members-clause-delivers c = changes-in (LivesAs (DeliversAs c.args.cut)) c.args.pid c.args.members.now c.index-members-place.result c.deliver_entry.new.entry c.if-place-members.true c.deliver_entry.ensures

pub returns-else-place-members-clause-delivers : goal.returns-else-place-members-clause-delivers
returns-else-place-members-clause-delivers c = changes-none (LivesAs (DeliversAs c.args.cut)) c.args.pid c.args.members.now c.args.members.now c.if-place-members.false

pub returns-then-place-members-clause-count : goal.returns-then-place-members-clause-count
returns-then-place-members-clause-count c = length-set c.args.members.now c.args.pid c.deliver_entry.new.entry

pub returns-else-place-members-clause-count : goal.returns-else-place-members-clause-count
returns-else-place-members-clause-count c = refl
