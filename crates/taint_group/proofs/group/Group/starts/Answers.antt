use Rattle.std.proofs.Common.{List, ℕ, Option, Some, None, IfSome, sym, subst}
use Rattle.parts_model.specs.Numbered.{nth}
use Rattle.taint_members.specs.Access.{HoldsKeys, Memories}
use Rattle.taint_members.specs.declared.member.MemberSets.{MemberSets}
use Rattle.taint_members.specs.declared.member.NewMember.{NewMember}
use Rattle.taint_group.specs.Turns.{StartsEntry}
use Rattle.taint_group.specs.Groups.{heard_of, tables_of}
use Rattle.taint_state.specs.Heard.{heard_in}
use Rattle.taint_group.proofs.Groups.{if-map, ok-map}
use Rattle.taint_group.proofs.Joining.{starts-go}
use Rattle.taint_group.proofs.Keyed.{ready-of}
use Rattle.taint_group.proofs.Seating.{held-once}
use Rattle.taint_group.proofs.group.Group.starts.Goals as goal

if-any : {P : Type 0} (o : Option NewMember) → P → IfSome o (λ (k : NewMember). P)
if-any None p = tt
if-any (Some k) p = p

pub start_member-requires : goal.start_member-requires
start_member-requires c =
    let g = c.args.self.now in
    let held = subst (λ l. IfSome (nth l c.args.pid) (λ (old : MemberSets). HoldsKeys old c.as_slice-2.result.now)) (sym c.as_slice.ensures.value)
    (subst (λ s. IfSome (nth g.members.items c.args.pid) (λ (old : MemberSets). HoldsKeys old s)) (sym c.as_slice-2.ensures.value) (ready-of (tables_of g) c.args.pid c.requires.sound.keyed)) in
    record { held = held }

pub may_seat-requires : goal.may_seat-requires
may_seat-requires c = record { once = if-any c.in_ok-fresh.fresh (held-once (tables_of c.args.self.now) c.requires.sound.keyed) }

pub returns : goal.returns
returns c =
    let g = c.args.self.now in
    let numbers = c.in_ok-numbers.numbers.items in
    let layout = c.args.layout in
    let fresh = c.in_ok-fresh.fresh in
    let started = subst (λ (s : Memories). StartsEntry s layout.load numbers layout.block layout.block_len (nth g.members.items c.args.pid) fresh) c.as_slice-2.ensures.value
    (subst (λ (n : List ℕ). StartsEntry c.as_slice-2.result.now layout.load n layout.block layout.block_len (nth g.members.items c.args.pid) fresh) c.as_slice-3.ensures.value
    (subst (λ (l : List (Option MemberSets)). StartsEntry c.as_slice-2.result.now layout.load c.as_slice-3.result.now layout.block layout.block_len (nth l c.args.pid) fresh) c.as_slice.ensures.value c.in_ok-fresh.ensures)) in
    ok-map c.hear.result (λ heard. λ e before len.
    if-map (nth g.members.items c.args.pid) (λ old both. record { follows = both.0; keyed = both.1 })
    (starts-go g.linkage (heard_of g) (heard_in c.hear.new.self) c.args.pid c.args.event layout.load numbers layout.block layout.block_len c.args.len fresh
    g.members.items c.may_seat.new.members.items g.memories.items c.may_seat.new.memories.items g.sets c.received.new.sets
    heard c.starts_show.ensures c.requires.sound c.in_ok-numbers.ensures.received c.received.ensures.before started c.in_ok-may_seat.ensures e before len)) c.hear.ensures
