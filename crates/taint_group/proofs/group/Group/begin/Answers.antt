use Rattle.taint_group.specs.Groups.{heard_of, tables_of}
use Rattle.taint_group.proofs.Groups.{ok-map, tables_with}
use Rattle.taint_group.proofs.Joining.{begins-group, begins-sound}
use Rattle.taint_group.proofs.Seating.{held-once}
use Rattle.taint_group.proofs.group.Group.begin.Goals as goal

pub seat-requires : goal.seat-requires
seat-requires c = record { once = held-once (tables_of c.args.self.now) c.requires.sound.keyed }

pub returns-clause-begins : goal.returns-clause-begins
returns-clause-begins c =
    let g = c.args.self.now in
    ok-map c.seat.result (λ places. λ e before.
    (begins-group g.linkage (heard_of g) c.args.pid c.args.event c.in_ok-member.member g.members.items c.seat.new.members.items g.memories.items c.seat.new.memories.items g.sets c.begun.new.sets
    c.begins_show.ensures c.requires.sound c.begun.ensures.before (record {
      segment = c.in_ok-member.ensures.segment;
      registers = c.in_ok-member.ensures.registers;
      slot = c.in_ok-member.ensures.slot;
      window = c.in_ok-member.ensures.window;
    }) places e before).0.goes)
    c.seat.ensures

pub returns-clause-sound : goal.returns-clause-sound
returns-clause-sound c =
    let g = c.args.self.now in
    ok-map c.seat.result (λ places.
    begins-sound g.linkage (heard_of g) c.args.pid c.args.event (tables_with g.members.items g.memories.items g.sets) (tables_with c.seat.new.members.items c.seat.new.memories.items c.begun.new.sets)
    (begins-group g.linkage (heard_of g) c.args.pid c.args.event c.in_ok-member.member g.members.items c.seat.new.members.items g.memories.items c.seat.new.memories.items g.sets c.begun.new.sets
    c.begins_show.ensures c.requires.sound c.begun.ensures.before (record {
      segment = c.in_ok-member.ensures.segment;
      registers = c.in_ok-member.ensures.registers;
      slot = c.in_ok-member.ensures.slot;
      window = c.in_ok-member.ensures.window;
    }) places))
    c.seat.ensures
