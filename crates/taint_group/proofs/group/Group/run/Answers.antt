use Rattle.std.proofs.Common.{sym, subst, arith}
use Rattle.taint_group.specs.Groups.{heard_of}
use Rattle.taint_group.specs.Tables.{AreSoundTables}
use Rattle.taint_group.proofs.Tables.{tables-ready}
use Rattle.taint_group.proofs.Groups.{ok-map, runs-at, slice-back, tables-same}
use Rattle.taint_group.proofs.group.Group.run.Goals as goal

pub run_member-requires : goal.run_member-requires
run_member-requires c =
    tables-ready c.args.self.now.linkage (heard_of c.args.self.now) (record { members = c.as_mut_slice.result.now; memories = c.as_mut_slice-2.result.now; sets = c.args.self.now.sets })
    (subst (AreSoundTables c.args.self.now.linkage (heard_of c.args.self.now))
    (sym (tables-same c.as_mut_slice.result.now c.args.self.now.members.items c.as_mut_slice-2.result.now c.args.self.now.memories.items c.args.self.now.sets c.as_mut_slice.ensures.value c.as_mut_slice-2.ensures.value))
    c.requires.sound)
    c.args.pid

pub returns-clause-takes : goal.returns-clause-takes
returns-clause-takes c =
    ok-map c.run_member.result (λ runs.
    (runs-at c.args.self.now.linkage (heard_of c.args.self.now) c.args.pid c.args.instr.now c.args.before.now c.args.self.now.members.items c.as_mut_slice.result.now c.run_member.new.members _ c.args.self.now.memories.items c.as_mut_slice-2.result.now c.run_member.new.memories _ c.args.self.now.sets c.run_member.new.sets
    c.as_mut_slice.ensures.value c.as_mut_slice-2.ensures.value
    (slice-back c.args.self.now.members.len c.args.self.now.members.items c.run_member.new.members (omega arith)) (slice-back c.args.self.now.memories.len c.args.self.now.memories.items c.run_member.new.memories (omega arith))
    c.requires.sound c.runs_show.ensures c.runs_keep.ensures runs c.run_member.ensures.before c.run_member.ensures.keys).shows) c.run_member.ensures.runs

pub returns-clause-sound : goal.returns-clause-sound
returns-clause-sound c =
    ok-map c.run_member.result (λ runs.
    (runs-at c.args.self.now.linkage (heard_of c.args.self.now) c.args.pid c.args.instr.now c.args.before.now c.args.self.now.members.items c.as_mut_slice.result.now c.run_member.new.members _ c.args.self.now.memories.items c.as_mut_slice-2.result.now c.run_member.new.memories _ c.args.self.now.sets c.run_member.new.sets
    c.as_mut_slice.ensures.value c.as_mut_slice-2.ensures.value
    (slice-back c.args.self.now.members.len c.args.self.now.members.items c.run_member.new.members (omega arith)) (slice-back c.args.self.now.memories.len c.args.self.now.memories.items c.run_member.new.memories (omega arith))
    c.requires.sound c.runs_show.ensures c.runs_keep.ensures runs c.run_member.ensures.before c.run_member.ensures.keys).sound) c.run_member.ensures.runs
