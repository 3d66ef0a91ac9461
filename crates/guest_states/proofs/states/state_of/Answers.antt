use Rattle.std.proofs.Common.{◌∙◌, ◌<◌, ◌≤◌, length, arith}
use Rattle.guest_bodies.specs.Shown.{seen_in}
use Rattle.guest_states.proofs.Told.{tells-all, tells-more}
use Rattle.guest_states.proofs.states.state_of.Goals as goal

pub loop-pid-preserved : goal.loop-pid-preserved
loop-pid-preserved c =
    let i = c.loop-pid.pid-index in
    let below : i < length c.args.pids.now = omega arith in
    tells-more c.args.bodies.now c.args.pids.now i c.loop-pid.telling c.add.new.self below (c.requires.live i 0 below) c.in_ok-add.ensures c.loop-pid.invariant

pub returns : goal.returns
returns c =
    let end : length c.args.pids.now ≤ c.loop-pid.pid-index = omega arith in
    c.into_state.ensures ∙ tells-all (seen_in c.args.bodies.now) c.args.pids.now c.loop-pid.pid-index c.loop-pid.telling end c.loop-pid.invariant
