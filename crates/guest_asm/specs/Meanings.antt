-- The two meanings of a statement: how many bytes it has, and which, given where the labels stand.
use Rattle.std.specs.Prelude.{ℕ, ◌+◌, ◌-◌, ◌*◌, ◌/◌, ◌%◌, ◌^◌, ◌==◌, ◌&&◌, Bool, true, false, if◌then◌else◌, List, [], ◌∷◌, length, map, flat_map, replicate, Option, Some, None, ℤ, pos, neg_ℤ, ◌-ℤ◌, int_le, unsigned_abs}
use Rattle.std.specs.List.{list_all}
use Rattle.arn_base.specs.Window.{bytes_of}
use Rattle.rv64_isa.specs.Encoded.{word_of}
use Rattle.rv64_isa.specs.Signed.{signed_of}
use Rattle.rv64_isa.specs.declared.instruction.Instr.{Instr}
use Rattle.rv64_isa.specs.declared.instruction.Instr.TheVariants as instr
use Rattle.rv64_isa.specs.declared.instruction.ImmOp.{ImmOp}
use Rattle.rv64_isa.specs.declared.instruction.ImmOp.TheVariants.{Addi, Slti, Sltiu, Xori, Ori, Andi, Slli, Srli, Srai, Addiw, Slliw, Srliw, Sraiw}
use Rattle.asm_text.specs.Statements.{Statement, Nothing, Label, Lui, Auipc, Jal, Jalr, Branch, Load, Store, Imm, Plain, Address, Bytes, Zeros}

-- a program's body has at most so many bytes: the private window
abbrev pub most_bytes : ℕ
most_bytes = 262144

-- a number from a range, both ends included
abbrev pub is_between : ℤ → ℤ → ℤ → Bool
is_between low high n = int_le low n && int_le n high

-- 12 bits with a sign
abbrev pub is_short : ℤ → Bool
is_short n = is_between (neg_ℤ (pos 2048)) (pos 2047) n

-- the upper 20 bits of a word
abbrev pub is_upper : ℤ → Bool
is_upper n = is_between (pos 0) (pos 0xfffff) n

abbrev pub is_byte : ℤ → Bool
is_byte n = is_between (pos 0) (pos 255) n

abbrev pub is_count : ℤ → Bool
is_count n = is_between (pos 0) (pos most_bytes) n

-- a number that the immediate of an operation can hold: a shift's is its amount
abbrev pub is_immediate : ImmOp → ℤ → Bool
is_immediate Addi n = is_short n
is_immediate Slti n = is_short n
is_immediate Sltiu n = is_short n
is_immediate Xori n = is_short n
is_immediate Ori n = is_short n
is_immediate Andi n = is_short n
is_immediate Slli n = is_between (pos 0) (pos 63) n
is_immediate Srli n = is_between (pos 0) (pos 63) n
is_immediate Srai n = is_between (pos 0) (pos 63) n
is_immediate Addiw n = is_short n
is_immediate Slliw n = is_between (pos 0) (pos 31) n
is_immediate Srliw n = is_between (pos 0) (pos 31) n
is_immediate Sraiw n = is_between (pos 0) (pos 31) n

-- the numbers of a statement lie in their fields
abbrev pub has_fields : Statement → Bool
has_fields Nothing = true
has_fields (Label name) = true
has_fields (Lui rd n) = is_upper n
has_fields (Auipc rd n) = is_upper n
has_fields (Jal rd label) = true
has_fields (Jalr rd rs1 n) = is_short n
has_fields (Branch op rs1 rs2 label) = true
has_fields (Load op rd rs1 n) = is_short n
has_fields (Store op rs1 rs2 n) = is_short n
has_fields (Imm op rd rs1 n) = is_immediate op n
has_fields (Plain i) = true
has_fields (Address rd label) = true
has_fields (Bytes numbers) = list_all is_byte numbers
has_fields (Zeros n) = is_count n

-- how many bytes a statement has. A number of zeros that is out of its field stands for none
abbrev pub size : Statement → ℕ
size Nothing = 0
size (Label name) = 0
size (Lui rd n) = 4
size (Auipc rd n) = 4
size (Jal rd label) = 4
size (Jalr rd rs1 n) = 4
size (Branch op rs1 rs2 label) = 4
size (Load op rd rs1 n) = 4
size (Store op rs1 rs2 n) = 4
size (Imm op rd rs1 n) = 4
size (Plain i) = 4
size (Address rd label) = 8
size (Bytes numbers) = length numbers
size (Zeros n) = if is_count n then unsigned_abs n else 0

-- the statement is made of instructions
abbrev pub is_code : Statement → Bool
is_code Nothing = false
is_code (Label name) = false
is_code (Lui rd n) = true
is_code (Auipc rd n) = true
is_code (Jal rd label) = true
is_code (Jalr rd rs1 n) = true
is_code (Branch op rs1 rs2 label) = true
is_code (Load op rd rs1 n) = true
is_code (Store op rs1 rs2 n) = true
is_code (Imm op rd rs1 n) = true
is_code (Plain i) = true
is_code (Address rd label) = true
is_code (Bytes numbers) = false
is_code (Zeros n) = false

-- the label that a statement names as an operand, if it does
abbrev pub named_label : Statement → Option (List ℕ)
named_label Nothing = None
named_label (Label name) = None
named_label (Lui rd n) = None
named_label (Auipc rd n) = None
named_label (Jal rd label) = Some label
named_label (Jalr rd rs1 n) = None
named_label (Branch op rs1 rs2 label) = Some label
named_label (Load op rd rs1 n) = None
named_label (Store op rs1 rs2 n) = None
named_label (Imm op rd rs1 n) = None
named_label (Plain i) = None
named_label (Address rd label) = Some label
named_label (Bytes numbers) = None
named_label (Zeros n) = None

-- an even distance of so many bits with a sign
abbrev pub is_distance : ℕ → ℤ → Bool
is_distance width n =
    is_between (neg_ℤ (pos (2 ^ (width - 1)))) (pos (2 ^ (width - 1) - 2)) n && (unsigned_abs n % 2 == 0)

-- from one address to another
abbrev pub distance : ℕ → ℕ → ℤ
distance from to = pos to -ℤ pos from

-- an address in two parts: the upper 20 bits, rounded, and what is missing
abbrev pub upper_part : ℕ → ℕ
upper_part address = (address + 0x800) / 0x1000

abbrev pub lower_part : ℕ → ℤ
lower_part address = distance (upper_part address * 0x1000) address

-- the distance to a label fits, from a statement at an address
abbrev pub reaches : Statement → ℕ → ℕ → Bool
reaches (Jal rd label) from to = is_distance 21 (distance from to)
reaches (Branch op rs1 rs2 label) from to = is_distance 13 (distance from to)
reaches (Address rd label) from to = is_upper (pos (upper_part to))
reaches s from to = true

-- the constant of which these are the upper 20 bits
abbrev pub upper_imm : ℤ → ℤ
upper_imm n = signed_of 32 (unsigned_abs n * 0x1000)

-- the instructions of a statement at an address, where its label, if it names one, stands at another
abbrev pub instructions : Statement → ℕ → ℕ → List Instr
instructions Nothing from to = []
instructions (Label name) from to = []
instructions (Lui rd n) from to = instr.Lui rd (upper_imm n) ∷ []
instructions (Auipc rd n) from to = instr.Auipc rd (upper_imm n) ∷ []
instructions (Jal rd label) from to = instr.Jal rd (distance from to) ∷ []
instructions (Jalr rd rs1 n) from to = instr.Jalr rd rs1 n ∷ []
instructions (Branch op rs1 rs2 label) from to = instr.Branch op rs1 rs2 (distance from to) ∷ []
instructions (Load op rd rs1 n) from to = instr.Load op rd rs1 n ∷ []
instructions (Store op rs1 rs2 n) from to = instr.Store op rs1 rs2 n ∷ []
instructions (Imm op rd rs1 n) from to = instr.Imm op rd rs1 n ∷ []
instructions (Plain i) from to = i ∷ []
instructions (Address rd label) from to =
    instr.Lui rd (upper_imm (pos (upper_part to))) ∷ instr.Imm Addi rd rd (lower_part to) ∷ []
instructions (Bytes numbers) from to = []
instructions (Zeros n) from to = []

-- an instruction's word, little-endian
abbrev pub code : Instr → List ℕ
code i = bytes_of 4 (word_of i)

-- the bytes that are no instructions
abbrev pub data_bytes : Statement → List ℕ
data_bytes (Bytes numbers) = map unsigned_abs numbers
data_bytes (Zeros n) = replicate (unsigned_abs n) 0
data_bytes s = []

-- the bytes of a statement
abbrev pub bytes : Statement → ℕ → ℕ → List ℕ
bytes s from to = if is_code s then flat_map code (instructions s from to) else data_bytes s
