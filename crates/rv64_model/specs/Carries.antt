-- Which bytes an instruction's result takes, by the linkage.
use Rattle.std.specs.Prelude.{ℕ, zero, suc, ◌-◌, ◌==◌, nat_lt, Bool, false, if◌then◌else◌, List, [], ◌∷◌, ◌++◌, map, ℤ, pos, negsuc}
use Rattle.rv64_isa.specs.declared.instruction.Instr.{Instr}
use Rattle.rv64_isa.specs.declared.instruction.Instr.TheVariants.{Lui, Auipc, Jal, Jalr, Branch, Load, Store, Imm, Op, Fence, Ecall, Ebreak}
use Rattle.rv64_isa.specs.declared.instruction.LoadOp.{LoadOp}
use Rattle.rv64_isa.specs.declared.instruction.LoadOp.TheVariants.{Lb, Lh, Lw, Ld, Lbu, Lhu, Lwu}
use Rattle.rv64_isa.specs.declared.instruction.ImmOp.{ImmOp}
use Rattle.rv64_isa.specs.declared.instruction.ImmOp.TheVariants.{Addi}
use Rattle.rv64_isa.specs.declared.instruction.RegOp.{RegOp}
use Rattle.rv64_isa.specs.declared.instruction.RegOp.TheVariants.{Add, Sub, Sll, Slt, Sltu, Xor, Srl, Sra, Or, And, Addw, Subw, Sllw, Srlw, Sraw}
use Rattle.rv64_model.specs.declared.linkage.Linkage.{Linkage}
use Rattle.rv64_model.specs.declared.linkage.Linkage.TheVariants.{Copy, Data, Index}
use Rattle.rv64_model.specs.Values.{load_len, reg_op}
use Rattle.rv64_model.specs.Operands.{store_len}

-- a byte that an instruction reads: byte i, 0 to 7, of rs1 or of rs2; byte k of what it loads, counted from the address; or byte i of rs1,
-- as the register of an address
pub data Operand : Type 0 where
  Left : ℕ → Operand
  Right : ℕ → Operand
  Loaded : ℕ → Operand
  Address : ℕ → Operand

-- which operand bytes byte i of an instruction's result takes
abbrev pub Table : Type 0
Table = Instr → ℕ → List Operand

-- the immediate is 0
abbrev pub is_zero : ℤ → Bool
is_zero (pos n) = n == 0
is_zero (negsuc n) = false

-- one byte, where the test holds
abbrev pub taken_if : Bool → Operand → List Operand
taken_if test operand = if test then operand ∷ [] else []

-- a write to x0 takes none
abbrev pub unless_x0 : ℕ → List Operand → List Operand
unless_x0 zero operands = []
unless_x0 (suc rd) operands = operands

-- ADDI with 0 moves rs1 to rd; every other operation makes bytes of its own
abbrev pub imm_copies : ImmOp → ℤ → ℕ → List Operand
imm_copies Addi imm i = taken_if (is_zero imm) (Left i)
imm_copies op imm i = []

-- Under `copy` bytes are moved whole: by a move, a load and a store.
abbrev pub copy_operands : Instr → ℕ → List Operand
copy_operands (Lui rd imm) i = []
copy_operands (Auipc rd imm) i = []
copy_operands (Jal rd imm) i = []
copy_operands (Jalr rd rs1 imm) i = []
copy_operands (Branch op rs1 rs2 imm) i = []
copy_operands (Load op rd rs1 imm) i = unless_x0 rd (taken_if (nat_lt i (load_len op)) (Loaded i))
copy_operands (Store op rs1 rs2 imm) i = taken_if (nat_lt i (store_len op)) (Right i)
copy_operands (Imm op rd rs1 imm) i = unless_x0 rd (imm_copies op imm i)
copy_operands (Op op rd rs1 rs2) i = []
copy_operands (Fence word) i = []
copy_operands Ecall i = []
copy_operands Ebreak i = []

-- the numbers 0 to n - 1
abbrev pub below : ℕ → List ℕ
below zero = []
below (suc n) = below n ++ n ∷ []

-- the first n bytes of one operand
abbrev pub first_bytes : (ℕ → Operand) → ℕ → List Operand
first_bytes operand n = map operand (below n)

-- which bytes of two registers byte i of an operation's result takes
pub data Rule : Type 0 where
  -- byte i of both
  Bytewise : Rule
  -- bytes 0 to i of both, since carries go up
  Upward : Rule
  -- all bytes of the first, and byte 0 of the second, which says how far to shift
  Shifted : Rule
  -- for byte 0 all bytes of both, and for the others none
  Compared : Rule

-- the rule of an operation. A W form is as the operation on 64 bits
abbrev pub rule_of : RegOp → Rule
rule_of Add = Upward
rule_of Sub = Upward
rule_of Sll = Shifted
rule_of Slt = Compared
rule_of Sltu = Compared
rule_of Xor = Bytewise
rule_of Srl = Shifted
rule_of Sra = Shifted
rule_of Or = Bytewise
rule_of And = Bytewise
rule_of Addw = Upward
rule_of Subw = Upward
rule_of Sllw = Shifted
rule_of Srlw = Shifted
rule_of Sraw = Shifted

-- how many bytes an operation works on: a W form on 4
abbrev pub width_of : RegOp → ℕ
width_of Add = 8
width_of Sub = 8
width_of Sll = 8
width_of Slt = 8
width_of Sltu = 8
width_of Xor = 8
width_of Srl = 8
width_of Sra = 8
width_of Or = 8
width_of And = 8
width_of Addw = 4
width_of Subw = 4
width_of Sllw = 4
width_of Srlw = 4
width_of Sraw = 4

-- byte i of rs1 and of rs2
abbrev pub both : ℕ → List Operand
both i = Left i ∷ Right i ∷ []

-- what byte i of a result of `width` bytes takes of two registers
abbrev pub by_rule : Rule → ℕ → ℕ → List Operand
by_rule Bytewise width i = both i
by_rule Upward width i = first_bytes Left (suc i) ++ first_bytes Right (suc i)
by_rule Shifted width i = first_bytes Left width ++ Right 0 ∷ []
by_rule Compared width zero = first_bytes Left width ++ first_bytes Right width
by_rule Compared width (suc i) = []

-- the byte itself, or the top byte of a result that is narrower: bytes 4 to 7 of a W form are its sign, which is that of byte 3
abbrev pub within_width : ℕ → ℕ → ℕ
within_width width i = if nat_lt i width then i else width - 1

-- what byte i of an operation on two registers takes
abbrev pub op_takes : RegOp → ℕ → List Operand
op_takes op i = by_rule (rule_of op) (width_of op) (within_width (width_of op) i)

-- without the bytes of rs2, which an immediate form has not
abbrev pub of_left : List Operand → List Operand
of_left [] = []
of_left (Left i ∷ operands) = Left i ∷ of_left operands
of_left (operand ∷ operands) = of_left operands

-- what byte i of an operation with an immediate takes; ADDI with 0 is a move
abbrev pub imm_takes : ImmOp → ℤ → ℕ → List Operand
imm_takes Addi imm i = if is_zero imm then Left i ∷ [] else of_left (op_takes Add i)
imm_takes op imm i = of_left (op_takes (reg_op op) i)

-- what the bytes of a load above its width take: their sign is that of the top byte, or they are zeros
abbrev pub extended_from : LoadOp → List Operand
extended_from Lb = Loaded 0 ∷ []
extended_from Lh = Loaded 1 ∷ []
extended_from Lw = Loaded 3 ∷ []
extended_from Ld = []
extended_from Lbu = []
extended_from Lhu = []
extended_from Lwu = []

-- what byte i of a load takes
abbrev pub load_takes : LoadOp → ℕ → List Operand
load_takes op i = if nat_lt i (load_len op) then Loaded i ∷ [] else extended_from op

-- Under `data` a byte also takes those that it is worked out from.
abbrev pub data_operands : Instr → ℕ → List Operand
data_operands (Lui rd imm) i = []
data_operands (Auipc rd imm) i = []
data_operands (Jal rd imm) i = []
data_operands (Jalr rd rs1 imm) i = []
data_operands (Branch op rs1 rs2 imm) i = []
data_operands (Load op rd rs1 imm) i = unless_x0 rd (load_takes op i)
data_operands (Store op rs1 rs2 imm) i = taken_if (nat_lt i (store_len op)) (Right i)
data_operands (Imm op rd rs1 imm) i = unless_x0 rd (imm_takes op imm i)
data_operands (Op op rd rs1 rs2) i = unless_x0 rd (op_takes op i)
data_operands (Fence word) i = []
data_operands Ecall i = []
data_operands Ebreak i = []

-- all bytes of an address's register, for a byte that takes any
abbrev pub with_address : List Operand → List Operand
with_address [] = []
with_address (operand ∷ operands) = operand ∷ operands ++ first_bytes Address 8

-- Under `index` a byte that is loaded or stored also takes the address.
abbrev pub index_operands : Instr → ℕ → List Operand
index_operands (Load op rd rs1 imm) i = with_address (data_operands (Load op rd rs1 imm) i)
index_operands (Store op rs1 rs2 imm) i = with_address (data_operands (Store op rs1 rs2 imm) i)
index_operands instr i = data_operands instr i

-- the table of a linkage
abbrev pub operands : Linkage → Table
operands Copy = copy_operands
operands Data = data_operands
operands Index = index_operands
