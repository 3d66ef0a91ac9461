use Rattle.std.proofs.Common.{IfSome, IsSomeAnd, option_map, refl, ap, sym, subst, arith}
use Rattle.acts_model.specs.Transfers.{Founds}
use Rattle.parts_model.specs.Numbered.{nth}
use Rattle.taint_members.specs.Access.{HoldsKeys}
use Rattle.taint_members.specs.declared.member.MemberSets.{MemberSets}
use Rattle.taint_events.specs.Bytes.{AreEmpty}
use Rattle.taint_state.specs.Events.{event_by_member}
use Rattle.taint_group.specs.Groups.{ReturnsAs, heard_of, tables_of}
use Rattle.taint_state.specs.RunsShow.{kept_member}
use Rattle.taint_group.specs.Turns.{FoundsFrom, LivesAs, StartsChild}
use Rattle.taint_state.specs.Heard.{heard_in, kept_child}
use Rattle.taint_group.proofs.Groups.{if-map, ok-map, slice-back, slice-same}
use Rattle.taint_group.proofs.Keyed.{ready-of}
use Rattle.taint_group.proofs.Turning.{becomes-child, becomes-some, changes-still, of-member, returned-holds, returns-change, stand-still}
use Rattle.taint_group.proofs.group.Group.founds.Goals as goal

pub child_start-requires : goal.child_start-requires
child_start-requires c =
    let g = c.args.self.now in
    let held = subst (λ l. IfSome (nth l c.args.pid) (λ (m : MemberSets). HoldsKeys m c.as_mut_slice.result.now)) (sym c.as_slice.ensures.value)
    (subst (λ s. IfSome (nth g.members.items c.args.pid) (λ (m : MemberSets). HoldsKeys m s)) (sym c.as_mut_slice.ensures.value) (ready-of (tables_of g) c.args.pid c.requires.sound.keyed)) in
    record { held = held }

pub returns : goal.returns
returns c =
    let g = c.args.self.now in
    let numbers = c.in_ok-numbers.numbers.items in
    let start = c.in_ok-start.start in
    let memories = slice-same g.memories.len g.memories.items c.as_mut_slice.result.now c.child_start.new.memories c.as_mut_slice.ensures.value c.child_start.ensures.same (omega arith) in
    let started = subst (λ s. StartsChild s (nth g.members.items c.args.pid) start) c.as_mut_slice.ensures.value (subst (λ l. StartsChild c.as_mut_slice.result.now (nth l c.args.pid) start) c.as_slice.ensures.value c.in_ok-start.ensures.start) in
    ok-map c.hear_child.result (λ heard. λ child e before len.
    if-map (nth g.members.items c.args.pid) (λ old both. record { follows = both.0; keyed = both.1 })
    (changes-still (LivesAs ReturnsAs) (λ (old : MemberSets). event_by_member c.args.pid before (Founds c.args.pid child old.window.made c.args.event) c.args.event e) g.linkage c.args.pid (record { event = c.args.event; numbers = numbers; start = option_map kept_child start })
    g.members.items c.as_mut_slice-2.result.now c.return_member.new.members _ g.memories.items _ g.sets g.sets (heard_of g) (heard_in c.hear_child.new.self)
    memories c.as_mut_slice-2.ensures.value (slice-back g.members.len g.members.items c.return_member.new.members (omega arith))
    heard c.requires.sound (stand-still g.sets) returned-holds
    (λ o is m lives becomes.
    becomes-some ReturnsAs o m _ _ _ _ _ _ lives becomes (λ n to next.
    becomes-child g.memories.items o start _ _ _ _ _ _ _ (of-member (λ m. IsSomeAnd start (FoundsFrom g.memories.items m)) g.members.items g.members.items c.args.pid o refl is started) next (λ s founds last.
    c.founds_show.ensures _ _ c.args.pid c.args.event e before child (kept_member g.memories.items o) (kept_member g.memories.items n) (kept_child s) numbers c.requires.sound.kept (subst (λ n. AreEmpty n numbers) (sym len) c.in_ok-numbers.ensures)
    (record { result = to.result; others = ap (kept_member g.memories.items) to.others }) (record { result = founds.result; slot = founds.slot; window = founds.window }) last)))
    (returns-change c.args.pid c.as_mut_slice-2.result.now c.return_member.new.members c.return_member.ensures.returns))) c.hear_child.ensures
