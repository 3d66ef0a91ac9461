-- The opcodes, by their names in the manual's opcode map, and the words that SYSTEM has.
use Rattle.std.specs.Prelude.{ℕ}

-- the upper bits of a constant
abbrev pub lui : ℕ
lui = 0b0110111

-- the upper bits of a constant, from here
abbrev pub auipc : ℕ
auipc = 0b0010111

-- a jump to a distance from here
abbrev pub jal : ℕ
jal = 0b1101111

-- a jump to a distance from a register
abbrev pub jalr : ℕ
jalr = 0b1100111

-- a jump under a condition on two registers
abbrev pub branch : ℕ
branch = 0b1100011

-- a read of the memory
abbrev pub load : ℕ
load = 0b0000011

-- a write to the memory
abbrev pub store : ℕ
store = 0b0100011

-- an operation on a register and an immediate
abbrev pub op_imm : ℕ
op_imm = 0b0010011

-- the same on the low 32 bits
abbrev pub op_imm_32 : ℕ
op_imm_32 = 0b0011011

-- an operation on two registers
abbrev pub op : ℕ
op = 0b0110011

-- the same on the low 32 bits
abbrev pub op_32 : ℕ
op_32 = 0b0111011

-- the order of memory accesses
abbrev pub misc_mem : ℕ
misc_mem = 0b0001111

-- calls of the environment
abbrev pub system : ℕ
system = 0b1110011

-- a request to the environment
abbrev pub ecall_word : ℕ
ecall_word = 0x00000073

-- a call of a debugger
abbrev pub ebreak_word : ℕ
ebreak_word = 0x00100073
