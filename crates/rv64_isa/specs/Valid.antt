-- The instructions that have a word.
use Rattle.std.specs.Prelude.{◌≡◌, ℕ, ◌%◌, ◌<◌, ℤ, pos}
use Rattle.rv64_isa.specs.Fields.{opcode_of, funct3_of}
use Rattle.rv64_isa.specs.Opcode.{misc_mem}
use Rattle.rv64_isa.specs.Rows.{imm_row}
use Rattle.rv64_isa.specs.Signed.{IsBetween, FitsIn, magnitude_of}
use Rattle.rv64_isa.specs.declared.row.Form.{Form}
use Rattle.rv64_isa.specs.declared.row.Form.TheVariants.{Shift, WordShift}
use Rattle.rv64_isa.specs.declared.instruction.Instr.{Instr}
use Rattle.rv64_isa.specs.declared.instruction.Instr.TheVariants.{Lui, Auipc, Jal, Jalr, Branch, Load, Store, Imm, Op, Fence, Ecall, Ebreak}

-- each register is one of x0 to x31
abbrev pub HasRegisters : Instr → Type 0
HasRegisters (Lui rd imm) = rd < 32
HasRegisters (Auipc rd imm) = rd < 32
HasRegisters (Jal rd imm) = rd < 32
HasRegisters (Jalr rd rs1 imm) = (rd < 32) × (rs1 < 32)
HasRegisters (Branch op rs1 rs2 imm) = (rs1 < 32) × (rs2 < 32)
HasRegisters (Load op rd rs1 imm) = (rd < 32) × (rs1 < 32)
HasRegisters (Store op rs1 rs2 imm) = (rs1 < 32) × (rs2 < 32)
HasRegisters (Imm op rd rs1 imm) = (rd < 32) × (rs1 < 32)
HasRegisters (Op op rd rs1 rs2) = (rd < 32) × (rs1 < 32) × (rs2 < 32)
HasRegisters (Fence word) = Unit {0}
HasRegisters Ecall = Unit {0}
HasRegisters Ebreak = Unit {0}

-- a signed number of this width that is a multiple of this step
pub record IsStep (width step : ℕ) (imm : ℤ) : Type 0 where
  pub fits : FitsIn width imm
  pub whole : magnitude_of imm % step ≡ 0

-- the immediate is one that a row of this form can hold: a shift amount is 0 to 63, or 0 to 31
abbrev pub IsImmInRange : Form → ℤ → Type 0
IsImmInRange Shift imm = IsBetween (pos 0) (pos 63) imm
IsImmInRange WordShift imm = IsBetween (pos 0) (pos 31) imm
IsImmInRange form imm = FitsIn 12 imm

-- a word of FENCE's row
pub record IsFence (word : ℕ) : Type 0 where
  pub in_misc_mem : opcode_of word ≡ misc_mem
  pub ordinary : funct3_of word ≡ 0b000

-- the immediate, where there is one, is one that the row can hold
abbrev pub IsInRange : Instr → Type 0
IsInRange (Lui rd imm) = IsStep 32 4096 imm
IsInRange (Auipc rd imm) = IsStep 32 4096 imm
IsInRange (Jal rd imm) = IsStep 21 2 imm
IsInRange (Jalr rd rs1 imm) = FitsIn 12 imm
IsInRange (Branch op rs1 rs2 imm) = IsStep 13 2 imm
IsInRange (Load op rd rs1 imm) = FitsIn 12 imm
IsInRange (Store op rs1 rs2 imm) = FitsIn 12 imm
IsInRange (Imm op rd rs1 imm) = IsImmInRange (imm_row op).form imm
IsInRange (Op op rd rs1 rs2) = Unit {0}
IsInRange (Fence word) = IsFence word
IsInRange Ecall = Unit {0}
IsInRange Ebreak = Unit {0}
