use Rattle.taint_steps.proofs.Apart.{cleared}
use Rattle.taint_steps.proofs.NothingLoaded.{all-zero, nothing}
use Rattle.taint_steps.proofs.Stepping.{ran, still}
use Rattle.taint_steps.proofs.running.run_any.Goals as goal

-- where no register that is read has a set, the register that is written has none
pub returns-then-reads_nothing-clause-runs : goal.returns-then-reads_nothing-clause-runs
returns-then-reads_nothing-clause-runs c =
    let told = c.if-reads_nothing.true in
    let first = c.registers.result.0.now in
    let second = c.registers.result.1.now in
    cleared c.args.sets.now c.args.linkage c.args.instr c.args.before.now c.args.member.now c.clear_register.new.row c.args.memories.now first second
    c.rd.result c.rd.ensures (c.reads_nothing.ensures.apart told) c.registers.ensures.first c.registers.ensures.second
    (c.takes_nothing.ensures c.args.linkage c.args.instr first second nothing (c.reads_nothing.ensures.first told first c.registers.ensures.first) (c.reads_nothing.ensures.second told second c.registers.ensures.second) all-zero)
    c.clear_register.ensures

pub taken-requires : goal.taken-requires
taken-requires c = record { held = c.requires.held; registers = c.requires.registers; memory = c.requires.memory }

pub returns-then-reads_nothing-clause-before : goal.returns-then-reads_nothing-clause-before
returns-then-reads_nothing-clause-before c = still c.args.sets.now

pub returns-in_err-numbers-clause-before : goal.returns-in_err-numbers-clause-before
returns-in_err-numbers-clause-before c = c.taken.ensures.before

pub returns-clause-runs : goal.returns-clause-runs
returns-clause-runs c =
    let row = c.write_register.new.row in
    ran c.store.result c.args.sets.now c.taken.new.sets c.args.linkage c.args.instr c.args.before.now c.args.member.now row c.args.memories.now c.store.new.memories c.in_ok-numbers.numbers
    c.rd-2.result c.rd-2.ensures c.in_ok-numbers.ensures.takes c.write_register.ensures c.store.ensures.memory

pub returns-clause-before : goal.returns-clause-before
returns-clause-before c = c.taken.ensures.before

pub returns-clause-keys : goal.returns-clause-keys
returns-clause-keys c = c.store.ensures.keys
