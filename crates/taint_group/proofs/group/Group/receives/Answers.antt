use Rattle.std.proofs.Common.{IfSome, sym, subst, arith}
use Rattle.parts_model.specs.Numbered.{nth}
use Rattle.taint_group.specs.Groups.{heard_of, tables_of}
use Rattle.taint_state.specs.Heard.{heard_in}
use Rattle.taint_group.specs.Moves.{ReceivesIn}
use Rattle.taint_group.proofs.Groups.{if-map, ok-map, slice-back}
use Rattle.taint_group.proofs.Joining.{receives-group}
use Rattle.taint_group.proofs.Keyed.{ready-of}
use Rattle.taint_members.specs.Access.{HoldsKeys}
use Rattle.taint_members.specs.declared.member.MemberSets.{MemberSets}
use Rattle.taint_group.proofs.group.Group.receives.Goals as goal

pub receive_member-requires : goal.receive_member-requires
receive_member-requires c =
    let g = c.args.self.now in
    let held = subst (λ l. IfSome (nth l c.args.pid) (λ (m : MemberSets). HoldsKeys m c.as_mut_slice-2.result.now)) (sym c.as_mut_slice.ensures.value)
    (subst (λ s. IfSome (nth g.members.items c.args.pid) (λ (m : MemberSets). HoldsKeys m s)) (sym c.as_mut_slice-2.ensures.value) (ready-of (tables_of g) c.args.pid c.requires.sound.keyed)) in
    record { held = held }

pub returns : goal.returns
returns c =
    ok-map c.hear.result (λ heard. λ e before len.
    if-map (nth c.args.self.now.members.items c.args.pid) (λ old both. record { follows = both.0; keyed = both.1 })
    (receives-group c.args.self.now.linkage (heard_of c.args.self.now) (heard_in c.hear.new.self) c.args.pid c.args.event c.args.at c.in_ok-numbers.numbers.items c.args.len
    c.args.self.now.members.items c.as_mut_slice.result.now c.receive_member.new.members _ c.args.self.now.memories.items c.as_mut_slice-2.result.now c.receive_member.new.memories _ c.args.self.now.sets c.received.new.sets
    c.as_mut_slice.ensures.value
    (slice-back c.args.self.now.members.len c.args.self.now.members.items c.receive_member.new.members (omega arith))
    c.as_mut_slice-2.ensures.value
    (slice-back c.args.self.now.memories.len c.args.self.now.memories.items c.receive_member.new.memories (omega arith))
    heard c.receives_show.ensures c.requires.sound c.in_ok-numbers.ensures.received c.in_ok-numbers.ensures.before
    (subst (λ l. ReceivesIn c.args.pid c.args.at l c.as_mut_slice.result.now c.receive_member.new.members c.as_mut_slice-2.result.now c.receive_member.new.memories) c.deref.ensures.value c.in_ok-receive_member.ensures.receives)
    c.receive_member.ensures.keys e before len)) c.hear.ensures
