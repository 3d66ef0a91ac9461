use Rattle.taint_members.proofs.Carrying.{member-carried, on-twice}
use Rattle.taint_members.proofs.member.MemberSets.carry.Goals as goal

pub returns-clause-carried : goal.returns-clause-carried
returns-clause-carried c =
    member-carried c.carry-2.result c.carry.new.carrying c.carry-2.new.carrying c.args.self.now c.carry.new.self c.carry-2.new.self c.in_ok-carry.ensures.numbers
    c.carry-2.ensures.on c.carry-2.ensures.numbers

pub returns-clause-on : goal.returns-clause-on
returns-clause-on c = on-twice c.args.carrying.now c.carry.new.carrying c.carry-2.new.carrying c.carry.ensures.on c.carry-2.ensures.on
