use Rattle.std.proofs.Common.{refl}
use Rattle.std.proofs.lemmas.List.{length-set}
use Rattle.taint_group.specs.Moves.{SharesAs}
use Rattle.taint_group.specs.Turns.{LivesAs}
use Rattle.taint_group.proofs.Turning.{changes-in, changes-none}
use Rattle.taint_group.proofs.shares.share_member.Goals as goal

pub bounds-members-place : goal.bounds-members-place
bounds-members-place c = c.if-place-members.true

pub returns-then-place-members-clause-shares : goal.returns-then-place-members-clause-shares
returns-then-place-members-clause-shares c = changes-in (LivesAs (SharesAs c.args.held)) c.args.pid c.args.members.now c.index-members-place.result c.share_entry.new.entry c.if-place-members.true c.share_entry.ensures

pub returns-else-place-members-clause-shares : goal.returns-else-place-members-clause-shares
returns-else-place-members-clause-shares c = changes-none (LivesAs (SharesAs c.args.held)) c.args.pid c.args.members.now c.args.members.now c.if-place-members.false

pub returns-then-place-members-clause-count : goal.returns-then-place-members-clause-count
returns-then-place-members-clause-count c = length-set c.args.members.now c.args.pid c.share_entry.new.entry

pub returns-else-place-members-clause-count : goal.returns-else-place-members-clause-count
returns-else-place-members-clause-count c = refl
