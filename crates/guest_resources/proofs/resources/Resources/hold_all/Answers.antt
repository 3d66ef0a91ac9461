use Rattle.std.proofs.Common.{◌≤◌, length, arith}
use Rattle.guest_resources.proofs.Rooms.{all-held, holding-first, holding-next, next-room}
use Rattle.guest_resources.proofs.resources.Resources.hold_all.Goals as goal

pub loop-found-init : goal.loop-found-init
loop-found-init c = holding-first c.args.descriptors.now c.args.self.now c.requires

pub hold_open-requires : goal.hold_open-requires
hold_open-requires c = next-room c.args.descriptors.now c.loop-found.found-index _ c.args.self.now c.loop-found.self c.loop-found-test.true c.loop-found.invariant

pub loop-found-preserved : goal.loop-found-preserved
loop-found-preserved c = holding-next c.args.descriptors.now c.loop-found.found-index _ c.args.self.now c.loop-found.self c.hold_open.new.self c.loop-found-test.true c.loop-found.invariant c.hold_open.ensures

pub returns : goal.returns
returns c =
    let past : length c.args.descriptors.now ≤ c.loop-found.found-index = omega arith in
    all-held c.args.descriptors.now c.loop-found.found-index c.args.self.now c.loop-found.self past c.loop-found.invariant
