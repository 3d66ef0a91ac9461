-- What an instruction names: the registers that it reads and writes, and the bytes of the memory.
use Rattle.std.specs.Prelude.{ℕ, ℤ, Option, Some, None}
use Rattle.arn_base.specs.declared.machine.Cpu.{Cpu}
use Rattle.rv64_isa.specs.declared.instruction.Instr.{Instr}
use Rattle.rv64_isa.specs.declared.instruction.Instr.TheVariants.{Lui, Auipc, Jal, Jalr, Branch, Load, Store, Imm, Op, Fence, Ecall, Ebreak}
use Rattle.rv64_isa.specs.declared.instruction.StoreOp.{StoreOp}
use Rattle.rv64_isa.specs.declared.instruction.StoreOp.TheVariants.{Sb, Sh, Sw, Sd}
use Rattle.rv64_model.specs.Registers.{register}
use Rattle.rv64_model.specs.Values.{immediate, sum}

-- the register that is written, or x0, which keeps nothing
abbrev pub rd_of : Instr → ℕ
rd_of (Lui rd imm) = rd
rd_of (Auipc rd imm) = rd
rd_of (Jal rd imm) = rd
rd_of (Jalr rd rs1 imm) = rd
rd_of (Branch op rs1 rs2 imm) = 0
rd_of (Load op rd rs1 imm) = rd
rd_of (Store op rs1 rs2 imm) = 0
rd_of (Imm op rd rs1 imm) = rd
rd_of (Op op rd rs1 rs2) = rd
rd_of (Fence word) = 0
rd_of Ecall = 0
rd_of Ebreak = 0

-- the first register that is read, or x0
abbrev pub rs1_of : Instr → ℕ
rs1_of (Lui rd imm) = 0
rs1_of (Auipc rd imm) = 0
rs1_of (Jal rd imm) = 0
rs1_of (Jalr rd rs1 imm) = rs1
rs1_of (Branch op rs1 rs2 imm) = rs1
rs1_of (Load op rd rs1 imm) = rs1
rs1_of (Store op rs1 rs2 imm) = rs1
rs1_of (Imm op rd rs1 imm) = rs1
rs1_of (Op op rd rs1 rs2) = rs1
rs1_of (Fence word) = 0
rs1_of Ecall = 0
rs1_of Ebreak = 0

-- the second register that is read, or x0
abbrev pub rs2_of : Instr → ℕ
rs2_of (Lui rd imm) = 0
rs2_of (Auipc rd imm) = 0
rs2_of (Jal rd imm) = 0
rs2_of (Jalr rd rs1 imm) = 0
rs2_of (Branch op rs1 rs2 imm) = rs2
rs2_of (Load op rd rs1 imm) = 0
rs2_of (Store op rs1 rs2 imm) = rs2
rs2_of (Imm op rd rs1 imm) = 0
rs2_of (Op op rd rs1 rs2) = rs2
rs2_of (Fence word) = 0
rs2_of Ecall = 0
rs2_of Ebreak = 0

-- how many bytes a store writes
abbrev pub store_len : StoreOp → ℕ
store_len Sb = 1
store_len Sh = 2
store_len Sw = 4
store_len Sd = 8

-- how many bytes of the memory an instruction writes
abbrev pub stored_len : Instr → ℕ
stored_len (Lui rd imm) = 0
stored_len (Auipc rd imm) = 0
stored_len (Jal rd imm) = 0
stored_len (Jalr rd rs1 imm) = 0
stored_len (Branch op rs1 rs2 imm) = 0
stored_len (Load op rd rs1 imm) = 0
stored_len (Store op rs1 rs2 imm) = store_len op
stored_len (Imm op rd rs1 imm) = 0
stored_len (Op op rd rs1 rs2) = 0
stored_len (Fence word) = 0
stored_len Ecall = 0
stored_len Ebreak = 0

-- the address of a load or a store
abbrev pub address : Cpu → ℕ → ℤ → ℕ
address cpu rs1 imm = sum (register cpu rs1) (immediate imm)

-- where an instruction reads or writes the memory, if it does
abbrev pub accessed : Instr → Cpu → Option ℕ
accessed (Lui rd imm) cpu = None
accessed (Auipc rd imm) cpu = None
accessed (Jal rd imm) cpu = None
accessed (Jalr rd rs1 imm) cpu = None
accessed (Branch op rs1 rs2 imm) cpu = None
accessed (Load op rd rs1 imm) cpu = Some (address cpu rs1 imm)
accessed (Store op rs1 rs2 imm) cpu = Some (address cpu rs1 imm)
accessed (Imm op rd rs1 imm) cpu = None
accessed (Op op rd rs1 rs2) cpu = None
accessed (Fence word) cpu = None
accessed Ecall cpu = None
accessed Ebreak cpu = None
