-- The instruction table, read from the instruction.
use Rattle.std.specs.Prelude.{◌≢◌, ℕ, ◌+◌, ◌*◌, ◌^◌, ℤ}
use Rattle.rv64_isa.specs.Bits.{bits_of}
use Rattle.rv64_isa.specs.Opcode.{lui, auipc, jal, ecall_word, ebreak_word}
use Rattle.rv64_isa.specs.Rows.{jalr_row, branch_row, load_row, store_row, imm_row, reg_row}
use Rattle.rv64_isa.specs.Signed.{unsigned_of, magnitude_of}
use Rattle.rv64_isa.specs.Valid.{HasRegisters, IsInRange}
use Rattle.rv64_isa.specs.declared.row.Row.{Row}
use Rattle.rv64_isa.specs.declared.row.Form.{Form}
use Rattle.rv64_isa.specs.declared.row.Form.TheVariants.{Shift, WordShift}
use Rattle.rv64_isa.specs.declared.instruction.Instr.{Instr}
use Rattle.rv64_isa.specs.declared.instruction.Instr.TheVariants.{Lui, Auipc, Jal, Jalr, Branch, Load, Store, Imm, Op, Fence, Ecall, Ebreak}

-- a word of five fields, each at its lowest bit: 12 bits, rs1, funct3, rd and the opcode
abbrev pub fields_word : ℕ → ℕ → ℕ → ℕ → ℕ → ℕ
fields_word upper rs1 funct3 rd opcode =
    upper * 2 ^ 20 + rs1 * 2 ^ 15 + funct3 * 2 ^ 12 + rd * 2 ^ 7 + opcode

-- a word of the R form
abbrev pub r_word : Row → ℕ → ℕ → ℕ → ℕ
r_word row rd rs1 rs2 = fields_word (row.upper * 2 ^ 5 + rs2) rs1 row.funct3 rd row.opcode

-- a word of the I form
abbrev pub i_word : Row → ℕ → ℕ → ℤ → ℕ
i_word row rd rs1 imm = fields_word (unsigned_of 12 imm) rs1 row.funct3 rd row.opcode

-- bits 31 to 20 of a word of the I form: the immediate, or below bits of the row a shift amount
abbrev pub upper_by : Form → ℕ → ℤ → ℕ
upper_by Shift upper imm = upper * 2 ^ 6 + magnitude_of imm
upper_by WordShift upper imm = upper * 2 ^ 5 + magnitude_of imm
upper_by form upper imm = unsigned_of 12 imm

-- a word of the I form whose row says where the immediate lies
abbrev pub imm_word : Row → ℕ → ℕ → ℤ → ℕ
imm_word row rd rs1 imm =
    fields_word (upper_by row.form row.upper imm) rs1 row.funct3 rd row.opcode

-- a word of the S form, by the bits of the immediate: 11 to 5 stand above rs2, 4 to 0 in rd's place
abbrev pub s_word_by : ℕ → Row → ℕ → ℕ → ℕ
s_word_by imm row rs1 rs2 =
    fields_word (bits_of imm 11 5 * 2 ^ 5 + rs2) rs1 row.funct3 (bits_of imm 4 0) row.opcode

-- a word of the S form
abbrev pub s_word : Row → ℕ → ℕ → ℤ → ℕ
s_word row rs1 rs2 imm = s_word_by (unsigned_of 12 imm) row rs1 rs2

-- a word of the B form, by the bits of the immediate: 12 and 10 to 5 stand above rs2, 4 to 1 and 11 in
-- rd's place
abbrev pub b_word_by : ℕ → Row → ℕ → ℕ → ℕ
b_word_by imm row rs1 rs2 =
    fields_word ((bits_of imm 12 12 * 2 ^ 6 + bits_of imm 10 5) * 2 ^ 5 + rs2) rs1 row.funct3
    (bits_of imm 4 1 * 2 + bits_of imm 11 11) row.opcode

-- a word of the B form
abbrev pub b_word : Row → ℕ → ℕ → ℤ → ℕ
b_word row rs1 rs2 imm = b_word_by (unsigned_of 13 imm) row rs1 rs2

-- a word of three fields, each at its lowest bit: 20 bits, rd and the opcode
abbrev pub long_word : ℕ → ℕ → ℕ → ℕ
long_word upper rd opcode = upper * 2 ^ 12 + rd * 2 ^ 7 + opcode

-- a word of the U form, by the bits of the immediate: 31 to 12 stand in their own place
abbrev pub u_word : ℕ → ℕ → ℤ → ℕ
u_word opcode rd imm = long_word (bits_of (unsigned_of 32 imm) 31 12) rd opcode

-- a word of the J form, by the bits of the immediate: from the top 20, 10 to 1, 11, and 19 to 12
abbrev pub j_word_by : ℕ → ℕ → ℕ → ℕ
j_word_by imm opcode rd =
    long_word (bits_of imm 20 20 * 2 ^ 19 + bits_of imm 10 1 * 2 ^ 9 + bits_of imm 11 11 * 2 ^ 8
    + bits_of imm 19 12) rd opcode

-- a word of the J form
abbrev pub j_word : ℕ → ℕ → ℤ → ℕ
j_word opcode rd imm = j_word_by (unsigned_of 21 imm) opcode rd

-- the word of an instruction
unfoldable pub word_of : Instr → ℕ
word_of (Lui rd imm) = u_word lui rd imm
word_of (Auipc rd imm) = u_word auipc rd imm
word_of (Jal rd imm) = j_word jal rd imm
word_of (Jalr rd rs1 imm) = i_word jalr_row rd rs1 imm
word_of (Branch op rs1 rs2 imm) = b_word (branch_row op) rs1 rs2 imm
word_of (Load op rd rs1 imm) = i_word (load_row op) rd rs1 imm
word_of (Store op rs1 rs2 imm) = s_word (store_row op) rs1 rs2 imm
word_of (Imm op rd rs1 imm) = imm_word (imm_row op) rd rs1 imm
word_of (Op op rd rs1 rs2) = r_word (reg_row op) rd rs1 rs2
word_of (Fence word) = word
word_of Ecall = ecall_word
word_of Ebreak = ebreak_word

-- no instruction has this word
abbrev pub HasNoRow : ℕ → Type 0
HasNoRow word = (i : Instr) → HasRegisters i → IsInRange i → word_of i ≢ word
