-- The fields of an instruction word: RISC-V unprivileged manual, "Base Instruction Formats" and
-- "Immediate Encoding Variants".
use Rattle.std.specs.Prelude.{ℕ, ◌+◌, ◌*◌, ◌^◌, ℤ, pos}
use Rattle.rv64_isa.specs.Bits.{bits_of}
use Rattle.rv64_isa.specs.Signed.{signed_of}

-- which group of rows the word belongs to
abbrev pub opcode_of : ℕ → ℕ
opcode_of word = bits_of word 6 0

-- the register that is written
abbrev pub rd_of : ℕ → ℕ
rd_of word = bits_of word 11 7

-- which row of its group
abbrev pub funct3_of : ℕ → ℕ
funct3_of word = bits_of word 14 12

-- the first register that is read
abbrev pub rs1_of : ℕ → ℕ
rs1_of word = bits_of word 19 15

-- the second register that is read
abbrev pub rs2_of : ℕ → ℕ
rs2_of word = bits_of word 24 20

-- which row of its group, where funct3 leaves it open
abbrev pub funct7_of : ℕ → ℕ
funct7_of word = bits_of word 31 25

-- the immediate of the I form: bits 11 to 0 are 31 to 20
abbrev pub i_immediate_of : ℕ → ℤ
i_immediate_of word = signed_of 12 (bits_of word 31 20)

-- the immediate of a shift of 64 bits, its amount
abbrev pub shift_amount_of : ℕ → ℤ
shift_amount_of word = pos (bits_of word 25 20)

-- the immediate of a shift of 32 bits, its amount
abbrev pub word_shift_amount_of : ℕ → ℤ
word_shift_amount_of word = pos (bits_of word 24 20)

-- the immediate of the S form: bits 11 to 5 are 31 to 25, and bits 4 to 0 are 11 to 7
abbrev pub s_immediate_of : ℕ → ℤ
s_immediate_of word = signed_of 12 (bits_of word 31 25 * 2 ^ 5 + bits_of word 11 7)

-- the immediate of the B form: bit 12 is 31, bit 11 is 7, bits 10 to 5 are 30 to 25, and bits 4 to 1
-- are 11 to 8
abbrev pub b_immediate_of : ℕ → ℤ
b_immediate_of word =
    signed_of 13 (bits_of word 31 31 * 2 ^ 12 + bits_of word 7 7 * 2 ^ 11
    + bits_of word 30 25 * 2 ^ 5 + bits_of word 11 8 * 2)

-- the immediate of the U form: bits 31 to 12 are its own
abbrev pub u_immediate_of : ℕ → ℤ
u_immediate_of word = signed_of 32 (bits_of word 31 12 * 2 ^ 12)

-- the immediate of the J form: bit 20 is 31, bits 19 to 12 are its own, bit 11 is 20, and bits 10 to
-- 1 are 30 to 21
abbrev pub j_immediate_of : ℕ → ℤ
j_immediate_of word =
    signed_of 21 (bits_of word 31 31 * 2 ^ 20 + bits_of word 19 12 * 2 ^ 12
    + bits_of word 20 20 * 2 ^ 11 + bits_of word 30 21 * 2)
