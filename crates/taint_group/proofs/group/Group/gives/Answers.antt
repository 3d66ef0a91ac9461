use Rattle.std.proofs.Common.{IfSome, ap, sym, subst, arith}
use Rattle.acts_model.specs.Transfers.{Gives, place_of}
use Rattle.parts_model.specs.Numbered.{nth}
use Rattle.taint_members.specs.Access.{HoldsKeys, number_at}
use Rattle.taint_members.specs.declared.member.MemberSets.{MemberSets}
use Rattle.taint_events.specs.Bytes.{AreGiven}
use Rattle.taint_state.specs.Events.{event_by_member, plain_heard}
use Rattle.taint_group.specs.Groups.{ReturnsAs, heard_of, tables_of}
use Rattle.taint_state.specs.RunsShow.{kept_member}
use Rattle.taint_group.specs.Turns.{HasGiven, LivesAs, holds_of}
use Rattle.taint_state.specs.Heard.{heard_in}
use Rattle.taint_group.proofs.Groups.{if-map, ok-map, slice-back}
use Rattle.taint_group.proofs.Turning.{becomes-some, changes-group, of-member, returned-holds, returns-change, stand-still}
use Rattle.taint_group.proofs.Keyed.{ready-of}
use Rattle.taint_group.proofs.group.Group.gives.Goals as goal

pub given_numbers-requires : goal.given_numbers-requires
given_numbers-requires c =
    let g = c.args.self.now in
    let held = subst (λ l. IfSome (nth l c.args.pid) (λ (m : MemberSets). HoldsKeys m c.as_slice-2.result.now)) (sym c.as_slice.ensures.value)
    (subst (λ s. IfSome (nth g.members.items c.args.pid) (λ (m : MemberSets). HoldsKeys m s)) (sym c.as_slice-2.ensures.value) (ready-of (tables_of g) c.args.pid c.requires.sound.keyed)) in
    record { held = held }

pub returns : goal.returns
returns c =
    let g = c.args.self.now in
    let numbers = c.in_ok-numbers.numbers.items in
    ok-map c.hear.result (λ heard. λ e before len.
    if-map (nth g.members.items c.args.pid) (λ old both. record { follows = both.0; keyed = both.1 })
    (changes-group (LivesAs ReturnsAs) (λ (old : MemberSets). event_by_member c.args.pid before (Gives c.args.pid (place_of (holds_of old) c.args.at c.args.len) c.args.len) c.args.event e) g.linkage c.args.pid (plain_heard c.args.event numbers)
    g.members.items c.as_mut_slice.result.now c.return_member.new.members _ g.memories.items g.sets g.sets (heard_of g) (heard_in c.hear.new.self)
    c.as_mut_slice.ensures.value
    (slice-back g.members.len g.members.items c.return_member.new.members (omega arith))
    heard c.requires.sound (stand-still g.sets) returned-holds
    (λ o is m lives becomes.
    becomes-some ReturnsAs o m _ _ _ _ _ _ lives becomes (λ n to next.
    c.gives_show.ensures _ _ c.args.pid c.args.event e before c.args.at c.args.len (kept_member g.memories.items o) (kept_member g.memories.items n) numbers c.requires.sound.kept (sym len)
    (of-member (λ (m : MemberSets). AreGiven (number_at m g.memories.items c.args.at) c.args.len numbers) g.members.items c.as_slice.result.now c.args.pid o c.as_slice.ensures.value is
    (subst (λ s. HasGiven (nth c.as_slice.result.now c.args.pid) s c.args.at c.args.len numbers) c.as_slice-2.ensures.value c.in_ok-numbers.ensures))
    (record { result = to.result; others = ap (kept_member g.memories.items) to.others }) next))
    (returns-change c.args.pid c.as_mut_slice.result.now c.return_member.new.members c.return_member.ensures.returns))) c.hear.ensures
