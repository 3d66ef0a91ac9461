use Rattle.std.proofs.Common.{◌<◌, ◌-◌, length, vec_len, vec_capacity, arith}
use Rattle.replay_groups.proofs.Rooms.{numbers-set, room-set, room-kept, room-past}
use Rattle.replay_groups.proofs.lists.make_member_room.Goals as goal

pub returns-in_err-reserve-clause-same : goal.returns-in_err-reserve-clause-same
returns-in_err-reserve-clause-same c =
    numbers-set c.args.members.now c.place-then-place-members.result c.reserve.new.self c.index-members-place.result c.reserve.ensures.items

pub returns-in_err-reserve-clause-kept : goal.returns-in_err-reserve-clause-kept
returns-in_err-reserve-clause-kept c other room =
    room-kept c.args.members.now c.place-then-place-members.result (other - 1) c.reserve.new.self c.index-members-place.result c.reserve.ensures.len c.reserve.ensures.capacity room

pub returns-in_ok-reserve-clause-same : goal.returns-in_ok-reserve-clause-same
returns-in_ok-reserve-clause-same c =
    numbers-set c.args.members.now c.place-then-place-members.result c.reserve.new.self c.index-members-place.result c.reserve.ensures.items

pub returns-in_ok-reserve-clause-room : goal.returns-in_ok-reserve-clause-room
returns-in_ok-reserve-clause-room c =
    let inside : c.place-then-place-members.result < length c.args.members.now = omega arith in
    let room : vec_len c.reserve.new.self < vec_capacity c.reserve.new.self = omega (arith, c.in_ok-reserve.ensures.ok) in
    room-set c.args.members.now c.place-then-place-members.result (c.args.group - 1) c.reserve.new.self c.place-then-place-members.ensures inside room

pub returns-in_ok-reserve-clause-kept : goal.returns-in_ok-reserve-clause-kept
returns-in_ok-reserve-clause-kept c other room =
    room-kept c.args.members.now c.place-then-place-members.result (other - 1) c.reserve.new.self c.index-members-place.result c.reserve.ensures.len c.reserve.ensures.capacity room

pub returns-else-place-members-clause-room : goal.returns-else-place-members-clause-room
returns-else-place-members-clause-room c = room-past c.args.members.now (c.args.group - 1) (omega arith)
