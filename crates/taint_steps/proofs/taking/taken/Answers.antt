use Rattle.std.proofs.Common.{ℕ, List, Result, Ok, Err, IfOk, subst}
use Rattle.arn_base.specs.declared.errors.NoMemory.{NoMemory}
use Rattle.arn_base.specs.declared.machine.Cpu.{Cpu}
use Rattle.rv64_isa.specs.declared.instruction.Instr.{Instr}
use Rattle.rv64_model.specs.Carries.{operands}
use Rattle.rv64_model.specs.Operands as named
use Rattle.rv64_model.specs.declared.linkage.Linkage.{Linkage}
use Rattle.taint_spans.specs.Numbered.{IsSet, Numbered}
use Rattle.taint_flow.specs.Gathered.{number_of}
use Rattle.taint_flow.specs.Names.{loaded_len}
use Rattle.taint_flow.specs.Results.{AreResults}
use Rattle.taint_members.specs.Access.{Memories}
use Rattle.taint_members.specs.declared.member.MemberSets.{MemberSets}
use Rattle.taint_steps.specs.Taking.{IsRead, IsRegister, Takes}
use Rattle.taint_steps.proofs.Whole.{read-numbers, register-numbers}
use Rattle.taint_steps.proofs.taking.taken.Goals as goal

takes : (r : Result (List ℕ) NoMemory) (old new : Numbered) (linkage : Linkage) (instr : Instr) (before : Cpu) (m : MemberSets) (memories : Memories) (first second loaded : List ℕ)
    → IsRegister m.registers (named.rs1_of instr) first → IsRegister m.registers (named.rs2_of instr) second → IsRead (named.accessed instr before) (loaded_len instr) m memories loaded
    → IfOk r (AreResults old new (number_of first second loaded) (operands linkage instr)) → IfOk r (Takes old new linkage instr before m memories)
takes (Ok numbers) old new linkage instr before m memories first second loaded f s read results =
    record { first = first; second = second; loaded = loaded; of_first = f; of_second = s; read = read; results = results }
takes (Err e) old new linkage instr before m memories first second loaded f s read results = results

pub results-requires : goal.results-requires
results-requires c =
    let m = c.args.member.now in
    let empty = subst (IsSet c.args.sets.now) c.empty.ensures.zero c.empty.ensures.set in
    record {
      first = register-numbers c.args.sets.now m.registers (named.rs1_of c.args.instr.now) c.registers.result.0.now empty c.requires.registers c.registers.ensures.first;
      second = register-numbers c.args.sets.now m.registers (named.rs2_of c.args.instr.now) c.registers.result.1.now empty c.requires.registers c.registers.ensures.second;
      loaded = read-numbers c.args.sets.now (named.accessed c.args.instr.now c.args.before.now) (loaded_len c.args.instr.now) m c.args.memories.now c.loaded-loaded.result empty c.requires.memory c.loaded-loaded.ensures;
    }

pub returns-clause-takes : goal.returns-clause-takes
returns-clause-takes c =
    takes c.results.result c.args.sets.now c.results.new.sets c.args.linkage c.args.instr.now c.args.before.now c.args.member.now c.args.memories.now
    c.registers.result.0.now c.registers.result.1.now c.loaded-loaded.result c.registers.ensures.first c.registers.ensures.second c.loaded-loaded.ensures c.results.ensures.results
