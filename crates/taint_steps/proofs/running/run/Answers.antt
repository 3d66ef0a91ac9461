use Rattle.std.proofs.Common.{subst, sym, ◌∙◌}
use Rattle.taint_members.specs.Access.{HoldsKeys, Memories}
use Rattle.taint_members.specs.declared.member.MemberSets.{MemberSets}
use Rattle.taint_steps.specs.Taking.{AreSetsAt, AreSetsIn}
use Rattle.taint_steps.proofs.Apart.{cleared}
use Rattle.taint_steps.proofs.NothingLoaded.{nothing}
use Rattle.taint_steps.proofs.Stepping.{runs-from, runs-on, still}
use Rattle.taint_steps.proofs.running.run.Goals as goal

pub returns-then-is_silent-clause-runs : goal.returns-then-is_silent-clause-runs
returns-then-is_silent-clause-runs c =
    let silent = c.is_silent.ensures.silent.0 c.if-is_silent.true in
    cleared c.args.sets.now c.args.linkage c.args.instr.now c.args.before.now c.args.member.now c.clear_register.new.row c.args.memories.now c.registers.result.0.now c.registers.result.1.now c.rd.result
    c.rd.ensures (silent.apart c.args.before.now) c.registers.ensures.first c.registers.ensures.second
    (c.is_silent.ensures.results c.if-is_silent.true c.registers.result.0.now c.registers.result.1.now nothing) c.clear_register.ensures

pub move_register-requires : goal.move_register-requires
move_register-requires c = record { registers = c.requires.registers }

pub move_loaded-requires : goal.move_loaded-requires
move_loaded-requires c =
    let one = c.move_register.ensures.kept c.if-move_register.false in
    record {
      held = subst (λ (k : MemberSets). HoldsKeys k c.args.memories.now) (sym one) c.requires.held;
      memory = subst (λ (k : MemberSets). AreSetsAt c.args.sets.now k c.args.memories.now) (sym one) c.requires.memory;
    }

pub move_stored-requires : goal.move_stored-requires
move_stored-requires c =
    let one = c.move_register.ensures.kept c.if-move_register.false in
    let two = c.move_loaded.ensures.kept c.if-move_loaded.false ∙ one in
    record {
      held = subst (λ (k : MemberSets). HoldsKeys k c.args.memories.now) (sym two) c.requires.held;
      registers = subst (λ (k : MemberSets). AreSetsIn c.args.sets.now k.registers) (sym two) c.requires.registers;
    }

pub run_any-requires : goal.run_any-requires
run_any-requires c =
    let one = c.move_register.ensures.kept c.if-move_register.false in
    let two = c.move_loaded.ensures.kept c.if-move_loaded.false ∙ one in
    let left = c.in_ok-move_stored.ensures.memories c.if-branch.false in
    record {
      held = subst (λ (s : Memories). HoldsKeys c.move_loaded.new.member s) (sym left) (subst (λ (k : MemberSets). HoldsKeys k c.args.memories.now) (sym two) c.requires.held);
      registers = subst (λ (k : MemberSets). AreSetsIn c.args.sets.now k.registers) (sym two) c.requires.registers;
      memory = subst (λ (s : Memories). AreSetsAt c.args.sets.now c.move_loaded.new.member s) (sym left) (subst (λ (k : MemberSets). AreSetsAt c.args.sets.now k c.args.memories.now) (sym two) c.requires.memory);
    }

pub returns-then-is_silent-clause-before : goal.returns-then-is_silent-clause-before
returns-then-is_silent-clause-before c = still c.args.sets.now

pub returns-then-move_register-clause-runs : goal.returns-then-move_register-clause-runs
returns-then-move_register-clause-runs c = c.move_register.ensures.runs c.if-move_register.true c.args.before.now c.args.memories.now

pub returns-then-move_register-clause-before : goal.returns-then-move_register-clause-before
returns-then-move_register-clause-before c = still c.args.sets.now

pub returns-then-move_loaded-clause-runs : goal.returns-then-move_loaded-clause-runs
returns-then-move_loaded-clause-runs c =
    let one = c.move_register.ensures.kept c.if-move_register.false in
    runs-from c.args.linkage c.args.instr.now c.args.before.now c.args.member.now c.move_register.new.member c.move_loaded.new.member c.args.memories.now c.args.memories.now c.args.sets.now c.args.sets.now one (c.move_loaded.ensures.runs c.if-move_loaded.true)

pub returns-then-move_loaded-clause-before : goal.returns-then-move_loaded-clause-before
returns-then-move_loaded-clause-before c = still c.args.sets.now

pub returns-then-branch-clause-runs : goal.returns-then-branch-clause-runs
returns-then-branch-clause-runs c =
    let one = c.move_register.ensures.kept c.if-move_register.false in
    let two = c.move_loaded.ensures.kept c.if-move_loaded.false ∙ one in
    runs-from c.args.linkage c.args.instr.now c.args.before.now c.args.member.now c.move_loaded.new.member c.move_loaded.new.member c.args.memories.now c.move_stored.new.memories c.args.sets.now c.args.sets.now two (c.in_ok-move_stored.ensures.runs c.if-branch.true)

pub returns-then-branch-clause-before : goal.returns-then-branch-clause-before
returns-then-branch-clause-before c = still c.args.sets.now

pub returns-then-branch-clause-keys : goal.returns-then-branch-clause-keys
returns-then-branch-clause-keys c = c.move_stored.ensures.keys

pub returns-clause-runs : goal.returns-clause-runs
returns-clause-runs c =
    let one = c.move_register.ensures.kept c.if-move_register.false in
    let two = c.move_loaded.ensures.kept c.if-move_loaded.false ∙ one in
    let left = c.in_ok-move_stored.ensures.memories c.if-branch.false in
    runs-on c.run_any.result c.args.linkage c.args.instr.now c.args.before.now c.args.member.now c.move_loaded.new.member c.run_any.new.member c.args.memories.now c.move_stored.new.memories c.run_any.new.memories c.args.sets.now c.run_any.new.sets two left c.run_any.ensures.runs

pub returns-clause-before : goal.returns-clause-before
returns-clause-before c = c.run_any.ensures.before

pub returns-clause-keys : goal.returns-clause-keys
returns-clause-keys c = c.run_any.ensures.keys ∙ c.move_stored.ensures.keys

pub returns-in_err-move_stored-clause-before : goal.returns-in_err-move_stored-clause-before
returns-in_err-move_stored-clause-before c = still c.args.sets.now

pub returns-in_err-move_stored-clause-keys : goal.returns-in_err-move_stored-clause-keys
returns-in_err-move_stored-clause-keys c = c.move_stored.ensures.keys
