use Rattle.std.proofs.Common.{IfSome, sym, subst, ◌∙◌}
use Rattle.taint_members.specs.Access.{HoldsKeys}
use Rattle.taint_members.specs.declared.member.MemberSets.{MemberSets}
use Rattle.taint_group.specs.Turns.{HasGiven}
use Rattle.taint_group.proofs.Turning.{nth-place, ok-none, ok-there}
use Rattle.taint_group.proofs.gives.given_numbers.Goals as goal

pub bounds-members-place : goal.bounds-members-place
bounds-members-place c = c.if-place-members.true

pub entry_given-requires : goal.entry_given-requires
entry_given-requires c = record {
  held = subst (λ o. IfSome o (λ (m : MemberSets). HoldsKeys m c.args.memories.now)) (nth-place c.args.members.now c.args.pid c.index-members-place.result c.if-place-members.true ∙ sym c.index-members-place.is) c.requires.held;
}

pub returns-then-place-members : goal.returns-then-place-members
returns-then-place-members c = ok-there c.entry_given.result (λ o numbers. HasGiven o c.args.memories.now c.args.at c.args.len numbers.items) c.args.members.now c.args.pid c.index-members-place.result c.index-members-place.is c.if-place-members.true c.entry_given.ensures

pub returns-else-place-members : goal.returns-else-place-members
returns-else-place-members c = ok-none c.empty.result (λ o numbers. HasGiven o c.args.memories.now c.args.at c.args.len numbers.items) (λ numbers. tt) c.args.members.now c.args.pid c.if-place-members.false
