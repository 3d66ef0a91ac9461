-- What an instruction of a member does to the sets of its bytes.
use Rattle.std.specs.Prelude.{◌≡◌, ℕ, ◌<◌, nat_lt, ◌==◌, ◌&&◌, if◌then◌else◌, List, take, slice_index, Option, Some, None}
use Rattle.arn_base.specs.declared.machine.Cpu.{Cpu}
use Rattle.rv64_isa.specs.declared.instruction.Instr.{Instr}
use Rattle.rv64_model.specs.Operands.{accessed, rd_of, stored_len}
use Rattle.taint_members.specs.Access.{Memories, Writes}
use Rattle.taint_members.specs.declared.member.MemberSets.{MemberSets}
use Rattle.taint_pages.specs.Rows.{byte_in}
use Rattle.taint_steps.specs.Taking.{Takes}
use Rattle.rv64_model.specs.declared.linkage.Linkage.{Linkage}
use Rattle.taint_spans.specs.Numbered.{Numbered}

-- the bytes of one register have other numbers. x0 is never written
abbrev pub WritesRegister : ℕ → List ℕ → List ℕ → List ℕ → Type 0
WritesRegister rd numbers old new =
    (r i : ℕ) → i < 8 → byte_in new r i ≡ (if (r == rd) && nat_lt 0 r then slice_index numbers i else byte_in old r i)

-- the bytes of a memory have other numbers from an address on, if there is one
abbrev pub Stores : Option ℕ → List ℕ → MemberSets → Memories → Memories → Type 0
Stores None numbers m old new = new ≡ old
Stores (Some at) numbers m old new = Writes at numbers m old new

-- What is taken becomes that of the register that is written, and of the bytes that are stored. All other bytes keep what they had.
pub record Runs (linkage : Linkage) (instr : Instr) (before : Cpu) (m n : MemberSets) (memories written : Memories) (old new : Numbered) : Type 0 where
  pub numbers : List ℕ
  pub takes : Takes old new linkage instr before m memories numbers
  pub register : WritesRegister (rd_of instr) numbers m.registers n.registers
  pub memory : Stores (accessed instr before) (take (stored_len instr) numbers) m memories written
  pub others : n ≡ record m { registers = n.registers }
