-- The instruction table: the row of each mnemonic, and the mnemonic that has a row.
use Rattle.std.specs.Prelude.{ℕ, ◌/◌, ◌<◌, ◌≤◌, ◌==◌, ◌&&◌, Bool, Option, List, [], ◌∷◌}
use Rattle.std.specs.List.{find}
use Rattle.rv64_isa.specs.Opcode.{branch, load, store, op_imm, op_imm_32, op, op_32, jalr}
use Rattle.rv64_isa.specs.declared.row.Row.{Row}
use Rattle.rv64_isa.specs.declared.row.Form.{Form}
use Rattle.rv64_isa.specs.declared.row.Form.TheVariants.{R, I, S, B, Shift, WordShift}
use Rattle.rv64_isa.specs.declared.instruction.BranchOp.{BranchOp}
use Rattle.rv64_isa.specs.declared.instruction.BranchOp.TheVariants.{Beq, Bne, Blt, Bge, Bltu, Bgeu}
use Rattle.rv64_isa.specs.declared.instruction.LoadOp.{LoadOp}
use Rattle.rv64_isa.specs.declared.instruction.LoadOp.TheVariants.{Lb, Lh, Lw, Ld, Lbu, Lhu, Lwu}
use Rattle.rv64_isa.specs.declared.instruction.StoreOp.{StoreOp}
use Rattle.rv64_isa.specs.declared.instruction.StoreOp.TheVariants.{Sb, Sh, Sw, Sd}
use Rattle.rv64_isa.specs.declared.instruction.ImmOp.{ImmOp}
use Rattle.rv64_isa.specs.declared.instruction.ImmOp.TheVariants.{Addi, Slti, Sltiu, Xori, Ori, Andi, Slli, Srli, Srai, Addiw, Slliw, Srliw, Sraiw}
use Rattle.rv64_isa.specs.declared.instruction.RegOp.{RegOp}
use Rattle.rv64_isa.specs.declared.instruction.RegOp.TheVariants.{Add, Sub, Sll, Slt, Sltu, Xor, Srl, Sra, Or, And, Addw, Subw, Sllw, Srlw, Sraw}

-- a row: its form, its opcode, its funct3, and the upper bits that its form leaves to it
abbrev pub row : Form → ℕ → ℕ → ℕ → Row
row form opcode funct3 upper = record { form = form; opcode = opcode; funct3 = funct3; upper = upper }

-- what a form leaves to the row of bits 31 to 25: all seven, the upper six, or none
abbrev pub upper_of : Form → ℕ → ℕ
upper_of R funct7 = funct7
upper_of WordShift funct7 = funct7
upper_of Shift funct7 = funct7 / 2
upper_of I funct7 = 0
upper_of S funct7 = 0
upper_of B funct7 = 0

-- the fields of a row fit their places
pub record IsRow (row : Row) : Type 0 where
  pub opcode_fits : row.opcode < 128
  pub funct3_fits : row.funct3 < 8
  pub upper_fits : row.upper ≤ upper_of row.form 127

-- whether a row is the one of these fields
abbrev pub is_row_of : ℕ → ℕ → ℕ → Row → Bool
is_row_of opcode funct3 funct7 row =
    row.opcode == opcode && row.funct3 == funct3 && row.upper == upper_of row.form funct7

-- the jump to a distance from a register
abbrev pub jalr_row : Row
jalr_row = row I jalr 0b000 0

-- the jumps under a condition
abbrev pub branch_row : BranchOp → Row
branch_row Beq = row B branch 0b000 0
branch_row Bne = row B branch 0b001 0
branch_row Blt = row B branch 0b100 0
branch_row Bge = row B branch 0b101 0
branch_row Bltu = row B branch 0b110 0
branch_row Bgeu = row B branch 0b111 0

-- the reads of the memory
abbrev pub load_row : LoadOp → Row
load_row Lb = row I load 0b000 0
load_row Lh = row I load 0b001 0
load_row Lw = row I load 0b010 0
load_row Ld = row I load 0b011 0
load_row Lbu = row I load 0b100 0
load_row Lhu = row I load 0b101 0
load_row Lwu = row I load 0b110 0

-- the writes to the memory
abbrev pub store_row : StoreOp → Row
store_row Sb = row S store 0b000 0
store_row Sh = row S store 0b001 0
store_row Sw = row S store 0b010 0
store_row Sd = row S store 0b011 0

-- the operations on a register and an immediate
abbrev pub imm_row : ImmOp → Row
imm_row Addi = row I op_imm 0b000 0
imm_row Slti = row I op_imm 0b010 0
imm_row Sltiu = row I op_imm 0b011 0
imm_row Xori = row I op_imm 0b100 0
imm_row Ori = row I op_imm 0b110 0
imm_row Andi = row I op_imm 0b111 0
imm_row Slli = row Shift op_imm 0b001 0b000000
imm_row Srli = row Shift op_imm 0b101 0b000000
imm_row Srai = row Shift op_imm 0b101 0b010000
imm_row Addiw = row I op_imm_32 0b000 0
imm_row Slliw = row WordShift op_imm_32 0b001 0b0000000
imm_row Srliw = row WordShift op_imm_32 0b101 0b0000000
imm_row Sraiw = row WordShift op_imm_32 0b101 0b0100000

-- the operations on two registers
abbrev pub reg_row : RegOp → Row
reg_row Add = row R op 0b000 0b0000000
reg_row Sub = row R op 0b000 0b0100000
reg_row Sll = row R op 0b001 0b0000000
reg_row Slt = row R op 0b010 0b0000000
reg_row Sltu = row R op 0b011 0b0000000
reg_row Xor = row R op 0b100 0b0000000
reg_row Srl = row R op 0b101 0b0000000
reg_row Sra = row R op 0b101 0b0100000
reg_row Or = row R op 0b110 0b0000000
reg_row And = row R op 0b111 0b0000000
reg_row Addw = row R op_32 0b000 0b0000000
reg_row Subw = row R op_32 0b000 0b0100000
reg_row Sllw = row R op_32 0b001 0b0000000
reg_row Srlw = row R op_32 0b101 0b0000000
reg_row Sraw = row R op_32 0b101 0b0100000

-- the mnemonics, kind by kind: the branches
abbrev pub branch_ops : List BranchOp
branch_ops = Beq ∷ Bne ∷ Blt ∷ Bge ∷ Bltu ∷ Bgeu ∷ []

-- the loads
abbrev pub load_ops : List LoadOp
load_ops = Lb ∷ Lh ∷ Lw ∷ Ld ∷ Lbu ∷ Lhu ∷ Lwu ∷ []

-- the stores
abbrev pub store_ops : List StoreOp
store_ops = Sb ∷ Sh ∷ Sw ∷ Sd ∷ []

-- with an immediate
abbrev pub imm_ops : List ImmOp
imm_ops =
    Addi ∷ Slti ∷ Sltiu ∷ Xori ∷ Ori ∷ Andi ∷ Slli ∷ Srli ∷ Srai
    ∷ Addiw ∷ Slliw ∷ Srliw ∷ Sraiw ∷ []

-- on two registers
abbrev pub reg_ops : List RegOp
reg_ops =
    Add ∷ Sub ∷ Sll ∷ Slt ∷ Sltu ∷ Xor ∷ Srl ∷ Sra ∷ Or ∷ And
    ∷ Addw ∷ Subw ∷ Sllw ∷ Srlw ∷ Sraw ∷ []

-- the mnemonic whose row has these fields, if there is one: a branch
abbrev pub branch_op_at : ℕ → Option BranchOp
branch_op_at funct3 = find (λ op. is_row_of branch funct3 0 (branch_row op)) branch_ops

-- a load
abbrev pub load_op_at : ℕ → Option LoadOp
load_op_at funct3 = find (λ op. is_row_of load funct3 0 (load_row op)) load_ops

-- a store
abbrev pub store_op_at : ℕ → Option StoreOp
store_op_at funct3 = find (λ op. is_row_of store funct3 0 (store_row op)) store_ops

-- with an immediate
abbrev pub imm_op_at : ℕ → ℕ → ℕ → Option ImmOp
imm_op_at opcode funct3 funct7 =
    find (λ op. is_row_of opcode funct3 funct7 (imm_row op)) imm_ops

-- on two registers
abbrev pub reg_op_at : ℕ → ℕ → ℕ → Option RegOp
reg_op_at opcode funct3 funct7 =
    find (λ op. is_row_of opcode funct3 funct7 (reg_row op)) reg_ops
