-- The fields of words that are made of fields, and words made of their own fields.
use Rattle.std.proofs.Common.{◌≡◌, ℕ, ◌+◌, ◌*◌, ◌/◌, ◌%◌, ◌^◌, ◌<◌, arith}
use Rattle.rv64_isa.specs.Bits.{bits_of}
use Rattle.rv64_isa.specs.Encoded.{fields_word, long_word}
use Rattle.rv64_isa.specs.Fields.{opcode_of, rd_of, funct3_of, rs1_of, rs2_of, funct7_of}

-- the fields of a word, of these values
pub record HasFields (word upper rs1 funct3 rd opcode : ℕ) : Type 0 where
  pub upper_is : bits_of word 31 20 ≡ upper
  pub rs1_is : rs1_of word ≡ rs1
  pub funct3_is : funct3_of word ≡ funct3
  pub rd_is : rd_of word ≡ rd
  pub opcode_is : opcode_of word ≡ opcode

pub HasFields-fields_word : (upper rs1 funct3 rd opcode : ℕ)
    → upper < 2 ^ 12 → rs1 < 32 → funct3 < 8 → rd < 32 → opcode < 128
    → HasFields (fields_word upper rs1 funct3 rd opcode) upper rs1 funct3 rd opcode
HasFields-fields_word upper rs1 funct3 rd opcode upper_fits rs1_fits funct3_fits rd_fits opcode_fits =
    record {
      upper_is = omega arith;
      rs1_is = omega arith;
      funct3_is = omega arith;
      rd_is = omega arith;
      opcode_is = omega arith;
    }

pub fields_word-fields : (word upper rs1 funct3 rd opcode : ℕ) → word < 2 ^ 32
    → HasFields word upper rs1 funct3 rd opcode → fields_word upper rs1 funct3 rd opcode ≡ word
fields_word-fields word upper rs1 funct3 rd opcode fits is = omega arith

-- the fields of a long word, of these values
pub record HasLongFields (word upper rd opcode : ℕ) : Type 0 where
  pub upper_is : bits_of word 31 12 ≡ upper
  pub rd_is : rd_of word ≡ rd
  pub opcode_is : opcode_of word ≡ opcode

pub HasLongFields-long_word : (upper rd opcode : ℕ) → upper < 2 ^ 20 → rd < 32 → opcode < 128
    → HasLongFields (long_word upper rd opcode) upper rd opcode
HasLongFields-long_word upper rd opcode upper_fits rd_fits opcode_fits =
    record { upper_is = omega arith; rd_is = omega arith; opcode_is = omega arith }

pub long_word-fields : (word upper rd opcode : ℕ) → word < 2 ^ 32
    → HasLongFields word upper rd opcode → long_word upper rd opcode ≡ word
long_word-fields word upper rd opcode fits is = omega arith

-- bits 31 to 20 of a word whose row has all seven upper bits, or all but the lowest of them
pub seven_above : (word : ℕ) → funct7_of word * 2 ^ 5 + rs2_of word ≡ bits_of word 31 20
seven_above word = omega arith

pub six_above : (word : ℕ) → funct7_of word / 2 * 2 ^ 6 + bits_of word 25 20 ≡ bits_of word 31 20
six_above word = omega arith

-- the parts of bits 31 to 20
pub rs2_of_upper : (word upper low : ℕ) → bits_of word 31 20 ≡ upper * 2 ^ 5 + low → low < 2 ^ 5
    → rs2_of word ≡ low
rs2_of_upper word upper low is fits = omega arith

pub funct7_of_upper : (word upper low : ℕ) → bits_of word 31 20 ≡ upper * 2 ^ 5 + low → low < 2 ^ 5
    → funct7_of word ≡ upper
funct7_of_upper word upper low is fits = omega arith

pub amount_of_upper : (word upper low : ℕ) → bits_of word 31 20 ≡ upper * 2 ^ 6 + low → low < 2 ^ 6
    → bits_of word 25 20 ≡ low
amount_of_upper word upper low is fits = omega arith

pub six_of_upper : (word upper low : ℕ) → bits_of word 31 20 ≡ upper * 2 ^ 6 + low → low < 2 ^ 6
    → funct7_of word / 2 ≡ upper
six_of_upper word upper low is fits = omega arith

-- the S form: the bits of the immediate are in their places, and make it
pub s_upper : (word n : ℕ) → n ≡ bits_of word 31 25 * 2 ^ 5 + bits_of word 11 7
    → bits_of n 11 5 * 2 ^ 5 + rs2_of word ≡ bits_of word 31 20
s_upper word n is = omega arith

pub s_lower : (word n : ℕ) → n ≡ bits_of word 31 25 * 2 ^ 5 + bits_of word 11 7
    → bits_of n 4 0 ≡ rd_of word
s_lower word n is = omega arith

pub s_bits : (word n : ℕ) → n < 2 ^ 12 → funct7_of word ≡ bits_of n 11 5 → rd_of word ≡ bits_of n 4 0
    → bits_of word 31 25 * 2 ^ 5 + bits_of word 11 7 ≡ n
s_bits word n fits upper lower = omega arith

-- the B form
abbrev pub b_bits_of : ℕ → ℕ
b_bits_of word =
    bits_of word 31 31 * 2 ^ 12 + bits_of word 7 7 * 2 ^ 11 + bits_of word 30 25 * 2 ^ 5
    + bits_of word 11 8 * 2

pub b_upper : (word n : ℕ) → n ≡ b_bits_of word
    → (bits_of n 12 12 * 2 ^ 6 + bits_of n 10 5) * 2 ^ 5 + rs2_of word ≡ bits_of word 31 20
b_upper word n is = omega arith

pub b_lower : (word n : ℕ) → n ≡ b_bits_of word → bits_of n 4 1 * 2 + bits_of n 11 11 ≡ rd_of word
b_lower word n is = omega arith

pub b_bits : (word n : ℕ) → n < 2 ^ 13 → n % 2 ≡ 0
    → funct7_of word ≡ bits_of n 12 12 * 2 ^ 6 + bits_of n 10 5
    → rd_of word ≡ bits_of n 4 1 * 2 + bits_of n 11 11 → b_bits_of word ≡ n
b_bits word n fits even upper lower = omega arith

pub b_bits_of-lt : (word : ℕ) → b_bits_of word < 2 ^ 13
b_bits_of-lt word = omega arith

-- the U form
pub u_upper : (word n : ℕ) → n ≡ bits_of word 31 12 * 2 ^ 12 → bits_of n 31 12 ≡ bits_of word 31 12
u_upper word n is = omega arith

pub u_bits : (word n : ℕ) → n < 2 ^ 32 → n % 4096 ≡ 0 → bits_of word 31 12 ≡ bits_of n 31 12
    → bits_of word 31 12 * 2 ^ 12 ≡ n
u_bits word n fits whole is = omega arith

-- the J form
abbrev pub j_bits_of : ℕ → ℕ
j_bits_of word =
    bits_of word 31 31 * 2 ^ 20 + bits_of word 19 12 * 2 ^ 12 + bits_of word 20 20 * 2 ^ 11
    + bits_of word 30 21 * 2

abbrev pub j_upper_of : ℕ → ℕ
j_upper_of n =
    bits_of n 20 20 * 2 ^ 19 + bits_of n 10 1 * 2 ^ 9 + bits_of n 11 11 * 2 ^ 8 + bits_of n 19 12

pub j_upper_of-lt : (n : ℕ) → j_upper_of n < 2 ^ 20
j_upper_of-lt n = omega arith

pub j_upper : (word n : ℕ) → n ≡ j_bits_of word → j_upper_of n ≡ bits_of word 31 12
j_upper word n is = omega arith

pub j_bits : (word n : ℕ) → n < 2 ^ 21 → n % 2 ≡ 0 → bits_of word 31 12 ≡ j_upper_of n
    → j_bits_of word ≡ n
j_bits word n fits even is = omega arith

pub j_bits_of-lt : (word : ℕ) → j_bits_of word < 2 ^ 21
j_bits_of-lt word = omega arith
