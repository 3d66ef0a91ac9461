-- The sets of what an instruction writes.
use Rattle.std.specs.Prelude.{ℕ, zero, suc, ◌<◌, List, Option, Some, None}
use Rattle.arn_base.specs.declared.machine.Cpu.{Cpu}
use Rattle.rv64_isa.specs.declared.instruction.Instr.{Instr}
use Rattle.rv64_model.specs.Carries.{operands}
use Rattle.rv64_model.specs.Operands as named
use Rattle.taint_spans.specs.Numbered.{IsSet, Numbered}
use Rattle.taint_flow.specs.Gathered.{number_of}
use Rattle.taint_flow.specs.Names.{loaded_len}
use Rattle.taint_flow.specs.Results.{AreResults}
use Rattle.taint_members.specs.Access.{AreFirst, AreRead, Memories, number_at}
use Rattle.taint_members.specs.declared.member.MemberSets.{MemberSets}
use Rattle.taint_pages.specs.Rows.{AreBytes, byte_in}
use Rattle.rv64_model.specs.declared.linkage.Linkage.{Linkage}

-- zeros, where nothing is named
abbrev pub no_bytes : ℕ → ℕ
no_bytes k = 0

-- the numbers of the bytes of a register, zeros for x0
abbrev pub IsRegister : List ℕ → ℕ → List ℕ → Type 0
IsRegister row zero numbers = AreFirst 8 no_bytes numbers
IsRegister row (suc r) numbers = (suc r < 32) × AreBytes row (suc r) numbers

-- the numbers of so many bytes from where they are loaded, if they are
abbrev pub IsRead : Option ℕ → ℕ → MemberSets → Memories → List ℕ → Type 0
IsRead None len m memories numbers = AreFirst 0 no_bytes numbers
IsRead (Some at) len m memories numbers = AreRead m memories at len numbers

-- the numbers of registers, but of x0, are those of sets
abbrev pub AreSetsIn : Numbered → List ℕ → Type 0
AreSetsIn sets row = (r i : ℕ) → 0 < r → r < 32 → i < 8 → IsSet sets (byte_in row r i)

-- so are those of memories
abbrev pub AreSetsAt : Numbered → MemberSets → Memories → Type 0
AreSetsAt sets m memories = (at k : ℕ) → IsSet sets (number_at m memories at k)

-- What was taken: by the bytes of both registers, and by those that are loaded.
pub record Takes (old new : Numbered) (linkage : Linkage) (instr : Instr) (before : Cpu) (m : MemberSets) (memories : Memories) (numbers : List ℕ) : Type 0 where
  pub first : List ℕ
  pub second : List ℕ
  pub loaded : List ℕ
  pub of_first : IsRegister m.registers (named.rs1_of instr) first
  pub of_second : IsRegister m.registers (named.rs2_of instr) second
  pub read : IsRead (named.accessed instr before) (loaded_len instr) m memories loaded
  pub results : AreResults old new (number_of first second loaded) (operands linkage instr) numbers
