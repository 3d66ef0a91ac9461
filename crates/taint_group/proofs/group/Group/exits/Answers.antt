use Rattle.std.proofs.Common.{sym, subst, arith}
use Rattle.acts_model.specs.Transfers.{Exits}
use Rattle.parts_model.specs.Numbered.{nth}
use Rattle.acts_model.specs.Records.{event_len}
use Rattle.taint_members.specs.declared.member.MemberSets.{MemberSets}
use Rattle.taint_events.specs.Bytes.{IsStatus}
use Rattle.taint_state.specs.Events.{event_by_member, plain_heard}
use Rattle.taint_state.specs.RunsShow.{kept_member}
use Rattle.taint_group.specs.Turns.{Ends, HasStatus}
use Rattle.taint_group.specs.Groups.{heard_of}
use Rattle.taint_state.specs.Heard.{heard_in}
use Rattle.taint_group.proofs.Groups.{if-map, ok-map, slice-back}
use Rattle.taint_group.proofs.Turning.{becomes-none, changes-group, ends-hold, of-member, stand-still}
use Rattle.taint_group.proofs.group.Group.exits.Goals as goal

pub returns : goal.returns
returns c =
    let g = c.args.self.now in
    ok-map c.hear.result (λ heard. λ e before len.
    if-map (nth g.members.items c.args.pid) (λ old both. record { follows = both.0; keyed = both.1 })
    (changes-group Ends (λ old. event_by_member c.args.pid before (Exits c.args.pid) c.args.event e) g.linkage c.args.pid (plain_heard c.args.event c.in_ok-numbers.numbers.items)
    g.members.items c.as_mut_slice.result.now c.end_member.new.members _ g.memories.items g.sets g.sets (heard_of g) (heard_in c.hear.new.self)
    c.as_mut_slice.ensures.value
    (slice-back g.members.len g.members.items c.end_member.new.members (omega arith))
    heard c.requires.sound (stand-still g.sets) ends-hold
    (λ o is m ends becomes.
    c.exits_show.ensures _ _ c.args.pid c.args.event e before (kept_member g.memories.items o) c.in_ok-numbers.numbers.items c.requires.sound.kept
    (of-member (λ (m : MemberSets). IsStatus m.registers (event_len e) c.in_ok-numbers.numbers.items) g.members.items c.as_slice.result.now c.args.pid o c.as_slice.ensures.value is (subst (λ n. HasStatus (nth c.as_slice.result.now c.args.pid) n c.in_ok-numbers.numbers.items) (sym len) c.in_ok-numbers.ensures)) (becomes-none _ _ _ _ _ _ _ ends becomes))
    c.end_member.ensures.ends)) c.hear.ensures
