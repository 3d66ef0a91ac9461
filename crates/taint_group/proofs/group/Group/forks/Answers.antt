use Rattle.std.proofs.Common.{◌≡◌, IfSome, None, sym, subst, arith}
use Rattle.parts_model.specs.Numbered.{nth}
use Rattle.taint_members.specs.Access.{HoldsKeys}
use Rattle.taint_members.specs.declared.member.MemberSets.{MemberSets}
use Rattle.taint_group.specs.Groups.{ReturnsIn, heard_of, tables_of}
use Rattle.taint_state.specs.Heard.{heard_in}
use Rattle.taint_group.specs.Moves.{HasChild}
use Rattle.taint_group.proofs.Groups.{if-map, ok-map, slice-back, slice-same}
use Rattle.taint_group.proofs.Joining.{forks-go, forks-ready, ready-there, seats-there}
use Rattle.taint_group.proofs.Keyed.{ready-of}
use Rattle.taint_group.proofs.group.Group.forks.Goals as goal

pub child_of-requires : goal.child_of-requires
child_of-requires c =
    let g = c.args.self.now in
    let held = subst (λ l. IfSome (nth l c.args.pid) (λ (m : MemberSets). HoldsKeys m c.as_mut_slice.result.now)) (sym c.as_slice.ensures.value)
    (subst (λ s. IfSome (nth g.members.items c.args.pid) (λ (m : MemberSets). HoldsKeys m s)) (sym c.as_mut_slice.ensures.value) (ready-of (tables_of g) c.args.pid c.requires.sound.keyed)) in
    record { held = held }

pub may_seat-requires : goal.may_seat-requires
may_seat-requires c =
    let g = c.args.self.now in
    let memories = slice-same g.memories.len g.memories.items c.as_mut_slice.result.now c.child_of.new.memories c.as_mut_slice.ensures.value c.child_of.ensures.same (omega arith) in
    let back = slice-back g.members.len g.members.items c.return_member.new.members (omega arith) in
    let kid = c.in_ok-kid.kid in
    let ready = forks-ready (tables_of g) c.args.pid c.return_member.new.members kid c.requires.sound.keyed
    (subst (λ l. ReturnsIn c.args.pid l c.return_member.new.members) c.as_mut_slice-2.ensures.value c.return_member.ensures.returns)
    (subst (λ l. nth l c.args.pid ≡ None → kid ≡ None) c.as_slice.ensures.value c.in_ok-kid.ensures.none) in
    let once = ready-there kid _ _ _ _ memories back ready in
    record { once = once }

pub returns : goal.returns
returns c =
    let g = c.args.self.now in
    let memories = slice-same g.memories.len g.memories.items c.as_mut_slice.result.now c.child_of.new.memories c.as_mut_slice.ensures.value c.child_of.ensures.same (omega arith) in
    let back = slice-back g.members.len g.members.items c.return_member.new.members (omega arith) in
    let kid = c.in_ok-kid.kid in
    ok-map c.hear_empty.result (λ nothing. λ e before len.
    if-map (nth g.members.items c.args.pid) (λ old both. record { follows = both.0; keyed = both.1 })
    (forks-go g.linkage (heard_of g) (heard_in c.hear_empty.new.heard) c.args.pid c.args.child c.args.event nothing.0 c.args.len
    g.members.items c.return_member.new.members c.may_seat.new.members.items g.memories.items c.may_seat.new.memories.items g.sets kid
    nothing.2 c.forks_show.ensures c.requires.sound nothing.1
    (subst (λ l. ReturnsIn c.args.pid l c.return_member.new.members) c.as_mut_slice-2.ensures.value c.return_member.ensures.returns)
    (subst (λ s. HasChild s (nth g.members.items c.args.pid) kid) c.as_mut_slice.ensures.value (subst (λ l. HasChild c.as_mut_slice.result.now (nth l c.args.pid) kid) c.as_slice.ensures.value c.in_ok-kid.ensures.child))
    (seats-there c.args.child c.args.event kid _ _ c.may_seat.new.memories.items _ _ c.may_seat.new.members.items memories back c.in_ok-may_seat.ensures) e before len)) c.hear_empty.ensures
