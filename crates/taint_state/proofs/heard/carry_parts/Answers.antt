use Rattle.std.proofs.Common.{option_map}
use Rattle.taint_state.specs.Heard.{kept_child}
use Rattle.taint_state.proofs.Carrying.{ok-all, on-twice, start-still}
use Rattle.taint_state.proofs.heard.carry_parts.Goals as goal

pub returns-clause-start : goal.returns-clause-start
returns-clause-start c =
    ok-all c.carry_all.result
    (start-still c.carry_child.new.carrying c.carry_all.new.self (option_map kept_child c.args.moved.now.start) (option_map kept_child c.carry_child.new.child) c.carry_all.ensures.on c.in_ok-carry_child.ensures.carried)

pub returns-clause-on : goal.returns-clause-on
returns-clause-on c = on-twice c.args.carrying.now c.carry_child.new.carrying c.carry_all.new.self c.carry_child.ensures.on c.carry_all.ensures.on
