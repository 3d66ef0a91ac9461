use Rattle.std.proofs.Common.{ap, sym, subst, arith}
use Rattle.acts_model.specs.Transfers.{Leaves}
use Rattle.parts_model.specs.Numbered.{nth}
use Rattle.taint_members.specs.declared.member.MemberSets.{MemberSets}
use Rattle.taint_events.specs.Bytes.{AreEmpty}
use Rattle.taint_state.specs.Events.{event_by_member, plain_heard}
use Rattle.taint_state.specs.RunsShow.{kept_member}
use Rattle.taint_group.specs.Turns.{LivesAs, LeavesAs}
use Rattle.taint_group.specs.Groups.{heard_of}
use Rattle.taint_state.specs.Heard.{heard_in}
use Rattle.taint_group.proofs.Groups.{if-map, ok-map, slice-back}
use Rattle.taint_group.proofs.Turning.{becomes-some, changes-group, lives-hold, stand-still}
use Rattle.taint_group.proofs.group.Group.leaves.Goals as goal

pub returns : goal.returns
returns c =
    let g = c.args.self.now in
    ok-map c.hear_empty.result (λ nothing. λ e before len.
    if-map (nth g.members.items c.args.pid) (λ old both. record { follows = both.0; keyed = both.1 })
    (changes-group (LivesAs LeavesAs) (λ old. event_by_member c.args.pid before (Leaves c.args.pid) c.args.event e) g.linkage c.args.pid (plain_heard c.args.event nothing.0)
    g.members.items c.as_mut_slice.result.now c.leave_member.new.members _ g.memories.items g.sets g.sets (heard_of g) (heard_in c.hear_empty.new.heard)
    c.as_mut_slice.ensures.value
    (slice-back g.members.len g.members.items c.leave_member.new.members (omega arith))
    nothing.2 c.requires.sound (stand-still g.sets) (lives-hold LeavesAs (λ o n to. (ap (λ (m : MemberSets). m.window) to.others, ap (λ (m : MemberSets). m.segment) to.others)))
    (λ o is m lives becomes.
    becomes-some LeavesAs o m _ _ _ _ _ _ lives becomes (λ n to next.
    c.leaves_show.ensures _ _ c.args.pid c.args.event e before (kept_member g.memories.items o) (kept_member g.memories.items n) nothing.0 c.requires.sound.kept (subst (λ n. AreEmpty n nothing.0) (sym len) nothing.1)
    (record { slot = to.slot; others = ap (kept_member g.memories.items) to.others }) next))
    c.leave_member.ensures.leaves)) c.hear_empty.ensures
