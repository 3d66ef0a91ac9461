use Rattle.std.proofs.Common.{length, sym, subst, arith}
use Rattle.parts_model.specs.Numbered.{nth}
use Rattle.taint_group.specs.Groups.{heard_of, tables_of}
use Rattle.taint_state.specs.Heard.{heard_in}
use Rattle.taint_group.specs.Moves.{AreHeldOnce, IsKeyBy}
use Rattle.taint_group.specs.declared.memories.MemoryKind.TheVariants.{Segment}
use Rattle.taint_group.proofs.Groups.{if-map, ok-map, slice-back}
use Rattle.taint_group.proofs.Seating.{held-once}
use Rattle.taint_group.proofs.Sharing.{shares-group}
use Rattle.taint_group.proofs.group.Group.shares.Goals as goal

pub key_for-key-requires : goal.key_for-key-requires
key_for-key-requires c = record {
  once = subst (λ n. AreHeldOnce n c.as_slice.result.now) (let same = c.len.ensures in omega arith) (subst (AreHeldOnce (length c.args.self.now.memories.items)) (sym c.as_slice.ensures.value) (held-once (tables_of c.args.self.now) c.requires.sound.keyed));
}

pub returns : goal.returns
returns c =
    ok-map c.hear_empty.result (λ nothing. λ e before len.
    if-map (nth c.args.self.now.members.items c.args.pid) (λ old both. record { follows = both.0; keyed = both.1 })
    (shares-group c.args.self.now.linkage (heard_of c.args.self.now) (heard_in c.hear_empty.new.heard) c.args.pid c.args.event c.key_for-key.result nothing.0 c.args.len c.in_ok-segment.segment
    c.args.self.now.members.items c.as_mut_slice.result.now c.share_member.new.members _ c.args.self.now.memories.items c.put_memory.new.memories.items c.args.self.now.sets
    c.as_mut_slice.ensures.value
    (slice-back c.args.self.now.members.len c.args.self.now.members.items c.share_member.new.members (omega arith))
    nothing.2 c.shares_show.ensures c.requires.sound nothing.1
    (subst (IsKeyBy Segment c.args.event c.key_for-key.result) c.as_slice.ensures.value c.key_for-key.ensures.own)
    c.in_ok-segment.ensures c.in_ok-put_memory.ensures c.share_member.ensures.shares e before len)) c.hear_empty.ensures
