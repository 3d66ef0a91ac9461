-- What an instruction does, from what its parts do.
use Rattle.std.proofs.Common.{◌≡◌, ℕ, List, take, Option, Some, None, Result, Ok, Err, OnOk, unwrap_or, refl, subst}
use Rattle.arn_base.specs.declared.machine.Cpu.{Cpu}
use Rattle.rv64_isa.specs.declared.instruction.Instr.{Instr}
use Rattle.rv64_model.specs.declared.linkage.Linkage.{Linkage}
use Rattle.rv64_model.specs.Operands.{accessed, rd_of, stored_len}
use Rattle.taint_spans.specs.Numbered.{Numbered, StandAsBefore}
use Rattle.taint_members.specs.Access.{Memories}
use Rattle.taint_members.specs.declared.member.MemberSets.{MemberSets}
use Rattle.taint_steps.specs.Running.{Runs, Stores, WritesRegister}
use Rattle.taint_steps.specs.Taking.{Takes}

-- sets that don't change
pub still : (sets : Numbered) → StandAsBefore sets sets
still sets = record { there = λ set h. h; same = λ set h. refl }

ok-map : {A B Y E : Type 0} (r : Result Y E) → (A → B) → OnOk r A → OnOk r B
ok-map (Ok y) f a = f a
ok-map (Err e) f a = a

-- memory is the same whatever the registers are
same-memory : (at : Option ℕ) (numbers : List ℕ) (m : MemberSets) (row : List ℕ) (memories written : Memories) → Stores at numbers (record m { registers = row }) memories written → Stores at numbers m memories written
same-memory None numbers m row memories written stores = stores
same-memory (Some at) numbers m row memories written stores = stores

-- what is taken goes to the register, and then to memory
pub ran : {Y E : Type 0} (r : Result Y E) (old new : Numbered) (linkage : Linkage) (instr : Instr) (before : Cpu) (m : MemberSets) (row : List ℕ) (memories written : Memories) (numbers : List ℕ) (rd : Option ℕ)
    → unwrap_or rd 0 ≡ rd_of instr → Takes old new linkage instr before m memories numbers → WritesRegister (unwrap_or rd 0) numbers m.registers row
    → OnOk r (Stores (accessed instr before) (take (stored_len instr) numbers) (record m { registers = row }) memories written)
    → OnOk r (Runs linkage instr before m (record m { registers = row }) memories written old new)
ran r old new linkage instr before m row memories written numbers rd named takes writes memory =
    ok-map {A = Stores (accessed instr before) (take (stored_len instr) numbers) (record m { registers = row }) memories written} {B = Runs linkage instr before m (record m { registers = row }) memories written old new} r (λ w. record {
      numbers = numbers;
      takes = takes;
      register = subst (λ reg. WritesRegister reg numbers m.registers row) named writes;
      memory = same-memory (accessed instr before) (take (stored_len instr) numbers) m row memories written w;
      others = refl;
    }) memory

-- what holds from what is the same
pub runs-from : (linkage : Linkage) (instr : Instr) (before : Cpu) (m k n : MemberSets) (memories written : Memories) (old new : Numbered) → k ≡ m → Runs linkage instr before k n memories written old new → Runs linkage instr before m n memories written old new
runs-from linkage instr before m k n memories written old new same runs = subst (λ x. Runs linkage instr before x n memories written old new) same runs

pub runs-on : {Y E : Type 0} (r : Result Y E) (linkage : Linkage) (instr : Instr) (before : Cpu) (m k n : MemberSets) (memories left written : Memories) (old new : Numbered) → k ≡ m → left ≡ memories
    → OnOk r (Runs linkage instr before k n left written old new) → OnOk r (Runs linkage instr before m n memories written old new)
runs-on r linkage instr before m k n memories left written old new same kept runs =
    subst (λ x. OnOk r (Runs linkage instr before x n memories written old new)) same (subst (λ s. OnOk r (Runs linkage instr before k n s written old new)) kept runs)
