-- What instructions work out from values of 64 bits: RISC-V unprivileged manual, "RV32I Base Integer Instruction Set" and "RV64I Base
-- Integer Instruction Set".
use Rattle.std.specs.Prelude.{ℕ, ℤ, ◌+◌, ◌-◌, ◌*◌, ◌/◌, ◌%◌, ◌^◌, ◌==◌, nat_lt, not, Bool}
use Rattle.std.specs.Int.{Width, w8, w16, w32, w64, cast_signed, cast_unsigned, from_bool, int_shr}
use Rattle.std.specs.Int.RustNames.{int_lt, bit_and, bit_or, bit_xor}
use Rattle.rv64_isa.specs.declared.instruction.BranchOp.{BranchOp}
use Rattle.rv64_isa.specs.declared.instruction.BranchOp.TheVariants.{Beq, Bne, Blt, Bge, Bltu, Bgeu}
use Rattle.rv64_isa.specs.declared.instruction.LoadOp.{LoadOp}
use Rattle.rv64_isa.specs.declared.instruction.LoadOp.TheVariants.{Lb, Lh, Lw, Ld, Lbu, Lhu, Lwu}
use Rattle.rv64_isa.specs.declared.instruction.ImmOp.{ImmOp}
use Rattle.rv64_isa.specs.declared.instruction.ImmOp.TheVariants.{Addi, Slti, Sltiu, Xori, Ori, Andi, Slli, Srli, Srai, Addiw, Slliw, Srliw, Sraiw}
use Rattle.rv64_isa.specs.declared.instruction.RegOp.{RegOp}
use Rattle.rv64_isa.specs.declared.instruction.RegOp.TheVariants.{Add, Sub, Sll, Slt, Sltu, Xor, Srl, Sra, Or, And, Addw, Subw, Sllw, Srlw, Sraw}

-- an immediate, its sign extended to 64 bits
abbrev pub immediate : ℤ → ℕ
immediate imm = cast_unsigned w64 imm

-- a value as a signed number, in two's complement
abbrev pub signed : ℕ → ℤ
signed value = cast_signed w64 value

-- the sum wraps, and so does the difference
abbrev pub sum : ℕ → ℕ → ℕ
sum a b = (a + b) % 2 ^ 64

abbrev pub difference : ℕ → ℕ → ℕ
difference a b = (a + (2 ^ 64 - b)) % 2 ^ 64

-- a number of 8, 16 or 32 bits, its sign extended to 64 bits
abbrev pub extended : Width → ℕ → ℕ
extended width value = cast_unsigned w64 (cast_signed width value)

-- the low 32 bits of a value
abbrev pub low_word : ℕ → ℕ
low_word value = value % 2 ^ 32

-- the low 32 bits of a result, their sign extended
abbrev pub word_result : ℕ → ℕ
word_result value = extended w32 (low_word value)

-- how far a value of 64 bits is shifted: by the low 6 bits
abbrev pub shift_amount : ℕ → ℕ
shift_amount value = value % 64

-- and one of 32 bits: by the low 5
abbrev pub word_shift_amount : ℕ → ℕ
word_shift_amount value = value % 32

-- an operation on two registers. An arithmetic shift to the right moves copies of the sign in: it is division, rounded down
abbrev pub reg_result : RegOp → ℕ → ℕ → ℕ
reg_result Add a b = sum a b
reg_result Sub a b = difference a b
reg_result Sll a b = a * 2 ^ shift_amount b % 2 ^ 64
reg_result Slt a b = from_bool (int_lt (signed a) (signed b))
reg_result Sltu a b = from_bool (nat_lt a b)
reg_result Xor a b = bit_xor a b
reg_result Srl a b = a / 2 ^ shift_amount b
reg_result Sra a b = cast_unsigned w64 (int_shr (signed a) (shift_amount b))
reg_result Or a b = bit_or a b
reg_result And a b = bit_and a b
reg_result Addw a b = word_result (low_word a + low_word b)
reg_result Subw a b = word_result (low_word a + (2 ^ 32 - low_word b))
reg_result Sllw a b = word_result (low_word a * 2 ^ word_shift_amount b)
reg_result Srlw a b = word_result (low_word a / 2 ^ word_shift_amount b)
reg_result Sraw a b = cast_unsigned w64 (int_shr (cast_signed w32 (low_word a)) (word_shift_amount b))

-- the operation that an immediate form carries out, the immediate in the place of the second register
abbrev pub reg_op : ImmOp → RegOp
reg_op Addi = Add
reg_op Slti = Slt
reg_op Sltiu = Sltu
reg_op Xori = Xor
reg_op Ori = Or
reg_op Andi = And
reg_op Slli = Sll
reg_op Srli = Srl
reg_op Srai = Sra
reg_op Addiw = Addw
reg_op Slliw = Sllw
reg_op Srliw = Srlw
reg_op Sraiw = Sraw

abbrev pub imm_result : ImmOp → ℕ → ℤ → ℕ
imm_result op value imm = reg_result (reg_op op) value (immediate imm)

-- whether a branch is taken
abbrev pub is_taken : BranchOp → ℕ → ℕ → Bool
is_taken Beq a b = a == b
is_taken Bne a b = not (a == b)
is_taken Blt a b = int_lt (signed a) (signed b)
is_taken Bge a b = not (int_lt (signed a) (signed b))
is_taken Bltu a b = nat_lt a b
is_taken Bgeu a b = not (nat_lt a b)

-- how many bytes a load reads
abbrev pub load_len : LoadOp → ℕ
load_len Lb = 1
load_len Lh = 2
load_len Lw = 4
load_len Ld = 8
load_len Lbu = 1
load_len Lhu = 2
load_len Lwu = 4

-- the value of a register after a load of this number: its sign is extended, or zeros stand above it
abbrev pub load_result : LoadOp → ℕ → ℕ
load_result Lb number = extended w8 number
load_result Lh number = extended w16 number
load_result Lw number = extended w32 number
load_result Ld number = number
load_result Lbu number = number
load_result Lhu number = number
load_result Lwu number = number
