use Rattle.std.proofs.Common.{sym, subst, arith}
use Rattle.acts_model.specs.Transfers.{Faults}
use Rattle.parts_model.specs.Numbered.{nth}
use Rattle.taint_events.specs.Bytes.{AreEmpty}
use Rattle.taint_state.specs.Events.{event_by_member, plain_heard}
use Rattle.taint_state.specs.RunsShow.{kept_member}
use Rattle.taint_group.specs.Turns.{Ends}
use Rattle.taint_group.specs.Groups.{heard_of}
use Rattle.taint_state.specs.Heard.{heard_in}
use Rattle.taint_group.proofs.Groups.{if-map, ok-map, slice-back}
use Rattle.taint_group.proofs.Turning.{becomes-none, changes-group, ends-hold, stand-still}
use Rattle.taint_group.proofs.group.Group.faults.Goals as goal

pub returns : goal.returns
returns c =
    let g = c.args.self.now in
    ok-map c.hear_empty.result (λ nothing. λ e before len.
    if-map (nth g.members.items c.args.pid) (λ old both. record { follows = both.0; keyed = both.1 })
    (changes-group Ends (λ old. event_by_member c.args.pid before (Faults c.args.pid) c.args.event e) g.linkage c.args.pid (plain_heard c.args.event nothing.0)
    g.members.items c.as_mut_slice.result.now c.end_member.new.members _ g.memories.items g.sets g.sets (heard_of g) (heard_in c.hear_empty.new.heard)
    c.as_mut_slice.ensures.value
    (slice-back g.members.len g.members.items c.end_member.new.members (omega arith))
    nothing.2 c.requires.sound (stand-still g.sets) ends-hold
    (λ o is m ends becomes.
    c.faults_show.ensures _ _ c.args.pid c.args.event e before (kept_member g.memories.items o) nothing.0 c.requires.sound.kept (subst (λ n. AreEmpty n nothing.0) (sym len) nothing.1) (becomes-none _ _ _ _ _ _ _ ends becomes))
    c.end_member.ensures.ends)) c.hear_empty.ensures
