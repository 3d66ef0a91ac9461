use Rattle.std.proofs.Common.{◌≡◌, ℕ, Option, Some, IfSome, sym, subst}
use Rattle.parts_model.specs.Numbered.{nth}
use Rattle.taint_members.specs.Access.{HoldsKey, HoldsKeys}
use Rattle.taint_members.specs.declared.member.MemberSets.{MemberSets}
use Rattle.taint_group.specs.declared.group.Group.{Group}
use Rattle.taint_group.specs.Groups.{tables_of}
use Rattle.taint_group.specs.Tables.{AreKeyed, held_of}
use Rattle.taint_group.specs.declared.memories.MemoryKind.TheVariants.{Segment, Window}
use Rattle.taint_tracker.proofs.answers.memory_byte.Goals as goal

-- the memories of a member are in the table
keys-of : (g : Group) (p : ℕ) (m : MemberSets) → AreKeyed (tables_of g) → Some m ≡ nth g.members.items p → HoldsKeys m g.memories.items
keys-of g p m keyed e = record {
  window = subst (λ (o : Option MemberSets). IfSome o (λ (k : MemberSets). HoldsKey (held_of Window k) g.memories.items)) (sym e) (keyed.held Window p);
  segment = subst (λ (o : Option MemberSets). IfSome o (λ (k : MemberSets). HoldsKey (held_of Segment k) g.memories.items)) (sym e) (keyed.held Segment p);
}

pub memory_number-requires : goal.memory_number-requires
memory_number-requires c = record {
  held = subst (HoldsKeys c.in-Some.member.now) (sym c.as_slice.ensures.value) (keys-of c.args.group.now c.args.pid c.in-Some.member.now c.requires.sound.keyed c.in-Some.ensures);
}
