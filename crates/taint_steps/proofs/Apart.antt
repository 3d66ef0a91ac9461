-- Instructions that access no memory: what is taken goes to a register alone.
use Rattle.std.proofs.Common.{◌≡◌, ℕ, zero, suc, ◌<◌, ◌==◌, ◌&&◌, Bool, true, false, nat_lt, if◌then◌else◌, List, take, slice_index, Option, None, unwrap_or, refl, sym, subst, ◌∙◌, arith}
use Rattle.std.proofs.lemmas.Bool.{lt-ltb, eqb-true}
use Rattle.arn_base.specs.declared.machine.Cpu.{Cpu}
use Rattle.rv64_isa.specs.declared.instruction.Instr.{Instr}
use Rattle.rv64_isa.specs.declared.instruction.Instr.TheVariants.{Imm}
use Rattle.rv64_model.specs.declared.linkage.Linkage.{Linkage}
use Rattle.rv64_model.specs.Carries.{operands}
use Rattle.rv64_model.specs.Operands.{accessed, rd_of, rs1_of, rs2_of, stored_len}
use Rattle.taint_spans.specs.Numbered.{IsSet, Numbered}
use Rattle.taint_flow.specs.Gathered.{AreNumbers, number_of}
use Rattle.taint_flow.specs.Moving.{MovesRegister}
use Rattle.taint_flow.specs.Names.{loaded_len}
use Rattle.taint_flow.specs.Results.{AreResults}
use Rattle.taint_members.specs.Access.{Memories}
use Rattle.taint_members.specs.declared.member.MemberSets.{MemberSets}
use Rattle.taint_pages.specs.Rows.{ClearsBytes, CopiesBytes, byte_in}
use Rattle.taint_steps.specs.Running.{Runs, Stores, WritesRegister}
use Rattle.taint_steps.specs.Taking.{AreSetsIn, IsRead, IsRegister, no_bytes}
use Rattle.taint_steps.proofs.NothingLoaded.{first-none, nothing}
use Rattle.taint_steps.proofs.Whole.{register-numbers}

no-memory : (at : Option ℕ) (numbers : List ℕ) (m : MemberSets) (memories : Memories) → at ≡ None → Stores at numbers m memories memories
no-memory at numbers m memories e = subst (λ o. Stores o numbers m memories memories) (sym e) refl

module _ (sets : Numbered) (linkage : Linkage) (instr : Instr) (before : Cpu) (m : MemberSets) (row : List ℕ) (memories : Memories) (first second numbers : List ℕ) (apart : accessed instr before ≡ None)
    (of_first : IsRegister m.registers (rs1_of instr) first) (of_second : IsRegister m.registers (rs2_of instr) second)
    (results : AreResults sets sets (number_of first second nothing) (operands linkage instr) numbers) (writes : WritesRegister (rd_of instr) numbers m.registers row) where
  pub apart-runs : Runs linkage instr before m (record m { registers = row }) memories memories sets sets
  apart-runs = record {
    numbers = numbers;
    takes = record {
      first = first;
      second = second;
      loaded = nothing;
      of_first = of_first;
      of_second = of_second;
      read = subst (λ o. IsRead o (loaded_len instr) m memories nothing) (sym apart) (first-none no_bytes);
      results = results;
    };
    register = writes;
    memory = no-memory (accessed instr before) (take (stored_len instr) numbers) m memories apart;
    others = refl;
  }

-- an operation with a number accesses no memory, and writes another register than x0 where it moves sets
moves-apart : (linkage : Linkage) (instr : Instr) (before : Cpu) → MovesRegister linkage instr → accessed instr before ≡ None
moves-apart linkage (Imm op rd rs1 imm) before is = refl
moves-apart linkage other before is = absurd is

pub moves-above : (linkage : Linkage) (instr : Instr) → MovesRegister linkage instr → 0 < rd_of instr
moves-above linkage (Imm op rd rs1 imm) is = is.0
moves-above linkage other is = absurd is

-- the register that is written isn't x0
written : (r to number value was : ℕ) → 0 < to → number ≡ value → (if r == to then number else was) ≡ (if (r == to) && nat_lt 0 r then value else was)
written r to number value was above same = by_test (r == to) refl
  where
    by_test : (t : Bool) → (r == to) ≡ t → (if r == to then number else was) ≡ (if (r == to) && nat_lt 0 r then value else was)
    by_test true e =
        let is : r ≡ to = eqb-true r to e in
        let some : 0 < r = omega (arith, is, above) in
        rw (e, lt-ltb 0 r some) same
    by_test false e = rw e refl

-- it has the numbers of the one that is read, zeros where that is x0
copied : (old new first : List ℕ) (from to : ℕ) → 0 < to → IsRegister old from first → CopiesBytes from to old new → (from ≡ 0 → ClearsBytes to old new) → WritesRegister to first old new
copied old new first zero to above is copies clears r i h = clears refl r i h ∙ written r to 0 (slice_index first i) (byte_in old r i) above (sym (is.bytes i h))
copied old new first (suc from) to above is copies clears r i h = copies r i h ∙ written r to (byte_in old (suc from) i) (slice_index first i) (byte_in old r i) above (sym (is.1.bytes i h))

module _ (sets : Numbered) (linkage : Linkage) (instr : Instr) (before : Cpu) (m : MemberSets) (row : List ℕ) (memories : Memories) (from to : ℕ) (first second : List ℕ)
    (empty : IsSet sets 0) (held : AreSetsIn sets m.registers) (moves : MovesRegister linkage instr)
    (results : (sets : Numbered) (first second loaded : List ℕ) → AreNumbers sets first → AreResults sets sets (number_of first second loaded) (operands linkage instr) first)
    (is_from : from ≡ rs1_of instr) (is_to : to ≡ rd_of instr) (copies : CopiesBytes from to m.registers row) (clears : from ≡ 0 → ClearsBytes to m.registers row)
    (of_first : IsRegister m.registers (rs1_of instr) first) (of_second : IsRegister m.registers (rs2_of instr) second) where
  writes : WritesRegister (rd_of instr) first m.registers row
  writes =
      subst (λ (k : ℕ). WritesRegister k first m.registers row) is_to
      (copied m.registers row first from to (subst (λ (k : ℕ). 0 < k) (sym is_to) (moves-above linkage instr moves)) (subst (λ (k : ℕ). IsRegister m.registers k first) (sym is_from) of_first) copies clears)

  pub copied-runs : Runs linkage instr before m (record m { registers = row }) memories memories sets sets
  copied-runs =
      apart-runs sets linkage instr before m row memories first second first (moves-apart linkage instr before moves) of_first of_second
      (results sets first second nothing (register-numbers sets m.registers (rs1_of instr) first empty held of_first)) writes

-- nothing is taken: the register has the empty sets, if one is written
pub cleared : (sets : Numbered) (linkage : Linkage) (instr : Instr) (before : Cpu) (m : MemberSets) (row : List ℕ) (memories : Memories) (first second : List ℕ) (rd : Option ℕ) → unwrap_or rd 0 ≡ rd_of instr
    → accessed instr before ≡ None → IsRegister m.registers (rs1_of instr) first → IsRegister m.registers (rs2_of instr) second
    → AreResults sets sets (number_of first second nothing) (operands linkage instr) nothing → WritesRegister (unwrap_or rd 0) nothing m.registers row
    → Runs linkage instr before m (record m { registers = row }) memories memories sets sets
cleared sets linkage instr before m row memories first second rd is_rd apart of_first of_second results writes =
    apart-runs sets linkage instr before m row memories first second nothing apart of_first of_second results (subst (λ r. WritesRegister r nothing m.registers row) is_rd writes)
