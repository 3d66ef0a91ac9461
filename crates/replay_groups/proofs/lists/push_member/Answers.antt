use Rattle.std.proofs.Common.{◌-◌, ◌<◌, length, arith}
use Rattle.replay_groups.proofs.Rooms.{numbers-push}
use Rattle.replay_groups.proofs.lists.push_member.Goals as goal

pub returns-clause-pushed : goal.returns-clause-pushed
returns-clause-pushed c =
    let inside : c.place.result < length c.args.members.now = omega arith in
    numbers-push c.args.members.now c.place.result (c.args.group - 1) c.args.pid c.push.new.self c.index-members-place.result c.place.ensures inside c.in_ok-push.ensures.items
