use Rattle.std.proofs.Common.{refl}
use Rattle.taint_state.specs.Heard.{kept_heard}
use Rattle.taint_state.proofs.Carrying.{heard-carried}
use Rattle.taint_state.proofs.heard.carry_event.Goals as goal

pub returns-clause-carried : goal.returns-clause-carried
returns-clause-carried c =
    heard-carried c.carry_moved.result c.carry_moved.new.carrying (kept_heard c.args.heard.now) (kept_heard (record { event = c.args.heard.now.event; moved = c.carry_moved.new.moved })) refl c.carry_moved.ensures.numbers c.carry_moved.ensures.start
