-- The instruction table, read from the word.
use Rattle.std.specs.Prelude.{ℕ, ℤ, ◌==◌, if◌then◌else◌, Option, Some, None, option_map}
use Rattle.rv64_isa.specs.Fields.{opcode_of, rd_of, rs1_of, rs2_of, funct3_of, funct7_of, i_immediate_of, shift_amount_of, word_shift_amount_of, s_immediate_of, b_immediate_of, u_immediate_of, j_immediate_of}
use Rattle.rv64_isa.specs.Opcode.{lui, auipc, jal, jalr, branch, load, store, op_imm, op_imm_32, op, op_32, misc_mem, system, ecall_word, ebreak_word}
use Rattle.rv64_isa.specs.Rows.{branch_op_at, load_op_at, store_op_at, imm_op_at, imm_row, reg_op_at}
use Rattle.rv64_isa.specs.declared.row.Form.{Form}
use Rattle.rv64_isa.specs.declared.row.Form.TheVariants.{Shift, WordShift}
use Rattle.rv64_isa.specs.declared.instruction.Instr.{Instr}
use Rattle.rv64_isa.specs.declared.instruction.Instr.TheVariants.{Lui, Auipc, Jal, Jalr, Branch, Load, Store, Imm, Op, Fence, Ecall, Ebreak}

-- a word of JALR, which has one funct3
abbrev pub jalr_decoded : ℕ → Option Instr
jalr_decoded word =
    if funct3_of word == 0b000 then Some (Jalr (rd_of word) (rs1_of word) (i_immediate_of word))
    else None

-- a word of BRANCH: the B form
abbrev pub branch_decoded : ℕ → Option Instr
branch_decoded word =
    option_map (λ op. Branch op (rs1_of word) (rs2_of word) (b_immediate_of word))
    (branch_op_at (funct3_of word))

-- a word of LOAD: the I form
abbrev pub load_decoded : ℕ → Option Instr
load_decoded word =
    option_map (λ op. Load op (rd_of word) (rs1_of word) (i_immediate_of word))
    (load_op_at (funct3_of word))

-- a word of STORE: the S form
abbrev pub store_decoded : ℕ → Option Instr
store_decoded word =
    option_map (λ op. Store op (rs1_of word) (rs2_of word) (s_immediate_of word))
    (store_op_at (funct3_of word))

-- the immediate in a word of a row of this form
abbrev pub immediate_by : Form → ℕ → ℤ
immediate_by Shift word = shift_amount_of word
immediate_by WordShift word = word_shift_amount_of word
immediate_by form word = i_immediate_of word

-- a word of OP-IMM or of OP-IMM-32: the I form, and the row says where its immediate lies
abbrev pub imm_decoded : ℕ → Option Instr
imm_decoded word =
    option_map (λ op. Imm op (rd_of word) (rs1_of word) (immediate_by (imm_row op).form word))
    (imm_op_at (opcode_of word) (funct3_of word) (funct7_of word))

-- a word of OP or of OP-32: the R form
abbrev pub reg_decoded : ℕ → Option Instr
reg_decoded word =
    option_map (λ op. Op op (rd_of word) (rs1_of word) (rs2_of word))
    (reg_op_at (opcode_of word) (funct3_of word) (funct7_of word))

-- a word of MISC-MEM: all with this funct3 are fences
abbrev pub fence_decoded : ℕ → Option Instr
fence_decoded word = if funct3_of word == 0b000 then Some (Fence word) else None

-- a word of SYSTEM: each row is a whole word
abbrev pub system_decoded : ℕ → Option Instr
system_decoded word =
    if word == ecall_word then Some Ecall
    else if word == ebreak_word then Some Ebreak
    else None

-- the instruction of a word with this opcode
unfoldable pub decoded_by : ℕ → ℕ → Option Instr
decoded_by opcode word =
    if opcode == lui then Some (Lui (rd_of word) (u_immediate_of word))
    else if opcode == auipc then Some (Auipc (rd_of word) (u_immediate_of word))
    else if opcode == jal then Some (Jal (rd_of word) (j_immediate_of word))
    else if opcode == jalr then jalr_decoded word
    else if opcode == branch then branch_decoded word
    else if opcode == load then load_decoded word
    else if opcode == store then store_decoded word
    else if opcode == op_imm then imm_decoded word
    else if opcode == op_imm_32 then imm_decoded word
    else if opcode == op then reg_decoded word
    else if opcode == op_32 then reg_decoded word
    else if opcode == misc_mem then fence_decoded word
    else if opcode == system then system_decoded word
    else None

-- the instruction of a word, and None where the table has no row
abbrev pub decoded : ℕ → Option Instr
decoded word = decoded_by (opcode_of word) word
