use Rattle.taint_group.proofs.Carrying.{members-still, on-thrice, memories-still}
use Rattle.taint_group.proofs.Groups.{ok-map}
use Rattle.taint_group.proofs.collects.carry_all.Goals as goal

pub returns-clause-members : goal.returns-clause-members
returns-clause-members c =
    ok-map c.carry.result
    (λ h. members-still c.carry_members.new.carrying c.carry_memories.new.carrying c.carry.new.carrying c.args.members.now.items c.carry_members.new.members.items c.carry_memories.ensures.on c.carry.ensures.on c.in_ok-carry_members.ensures.carried)
    c.carry.ensures.carried

pub returns-clause-memories : goal.returns-clause-memories
returns-clause-memories c =
    ok-map c.carry.result
    (λ h. memories-still c.carry_memories.new.carrying c.carry.new.carrying c.args.memories.now.items c.carry_memories.new.memories.items c.carry.ensures.on c.in_ok-carry_memories.ensures.carried)
    c.carry.ensures.carried

pub returns-clause-events : goal.returns-clause-events
returns-clause-events c = c.carry.ensures.carried

pub returns-clause-on : goal.returns-clause-on
returns-clause-on c =
    ok-map c.carry.result
    (λ h. on-thrice c.args.carrying.now c.carry_members.new.carrying c.carry_memories.new.carrying c.carry.new.carrying c.carry_members.ensures.on c.carry_memories.ensures.on c.carry.ensures.on)
    c.carry.ensures.carried
