use Rattle.taint_state.proofs.Carrying.{on-twice, start-carried}
use Rattle.taint_state.proofs.heard.ChildStart.carry.Goals as goal

pub returns-in_err-carry-2-clause-on : goal.returns-in_err-carry-2-clause-on
returns-in_err-carry-2-clause-on c = on-twice c.args.carrying.now c.carry.new.carrying c.carry-2.new.carrying c.carry.ensures.on c.carry-2.ensures.on

pub returns-clause-carried : goal.returns-clause-carried
returns-clause-carried c =
    start-carried c.carry-3.result c.carry.new.carrying c.carry-2.new.carrying c.carry-3.new.carrying c.args.self.now c.carry.new.self c.carry-2.new.self c.carry-3.new.self c.in_ok-carry.ensures.numbers c.in_ok-carry-2.ensures.numbers
    c.carry-2.ensures.on c.carry-3.ensures.on c.carry-3.ensures.numbers

pub returns-clause-on : goal.returns-clause-on
returns-clause-on c =
    on-twice c.args.carrying.now c.carry-2.new.carrying c.carry-3.new.carrying (on-twice c.args.carrying.now c.carry.new.carrying c.carry-2.new.carrying c.carry.ensures.on c.carry-2.ensures.on) c.carry-3.ensures.on
