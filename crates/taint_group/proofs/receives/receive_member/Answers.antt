use Rattle.std.proofs.Common.{IfSome, refl}
use Rattle.std.proofs.lemmas.List.{length-set}
use Rattle.taint_members.specs.Access.{HoldsKeys}
use Rattle.taint_members.specs.declared.member.MemberSets.{MemberSets}
use Rattle.taint_group.proofs.Groups.{ok-map}
use Rattle.taint_group.proofs.Joining.{receives-in, receives-none}
use Rattle.taint_group.proofs.Turning.{at-place}
use Rattle.taint_group.proofs.receives.receive_member.Goals as goal

pub bounds-members-place : goal.bounds-members-place
bounds-members-place c = c.if-place-members.true

pub receive_entry-requires : goal.receive_entry-requires
receive_entry-requires c = record {
  held = at-place (λ o. IfSome o (λ (m : MemberSets). HoldsKeys m c.args.memories.now)) c.args.members.now c.args.pid c.index-members-place.result c.if-place-members.true c.requires.held;
}

pub returns-then-place-members-clause-receives : goal.returns-then-place-members-clause-receives
returns-then-place-members-clause-receives c =
    ok-map c.receive_entry.result
    (receives-in c.args.pid c.args.at c.args.numbers.now c.args.members.now c.index-members-place.result c.receive_entry.new.entry c.args.memories.now c.receive_entry.new.memories c.if-place-members.true) c.receive_entry.ensures.receives

pub returns-then-place-members-clause-keys : goal.returns-then-place-members-clause-keys
returns-then-place-members-clause-keys c = c.receive_entry.ensures.keys

pub returns-else-place-members-clause-receives : goal.returns-else-place-members-clause-receives
returns-else-place-members-clause-receives c = receives-none c.args.pid c.args.at c.args.numbers.now c.args.members.now c.args.members.now c.args.memories.now c.args.memories.now c.if-place-members.false

pub returns-else-place-members-clause-keys : goal.returns-else-place-members-clause-keys
returns-else-place-members-clause-keys c = refl

pub returns-then-place-members-clause-count : goal.returns-then-place-members-clause-count
returns-then-place-members-clause-count c = length-set c.args.members.now c.args.pid c.receive_entry.new.entry

pub returns-else-place-members-clause-count : goal.returns-else-place-members-clause-count
returns-else-place-members-clause-count c = refl
