-- The registers and the blocks of memory with which a process starts.
use Rattle.std.specs.Prelude.{◌≡◌, ℕ, ◌*◌, ◌<◌, ◌^◌, List, ◌++◌, length, flat_map, Option, Some, None, All}
use Rattle.arn_base.specs.declared.machine.Block.{Block}
use Rattle.arn_base.specs.declared.machine.Cpu.{Cpu}
use Rattle.arn_base.specs.declared.records.Start.{Start}
use Rattle.schedule_log.specs.Fields.{field}
use Rattle.result_log.specs.declared.starts.TheConstants.{BLOCK_LEN, REGISTERS}

-- registers: each in eight bytes
abbrev pub registers_fields : List ℕ → List ℕ
registers_fields registers = flat_map (field 8) registers

-- a processor: x1 to x31, and the address of the next instruction
abbrev pub cpu_fields : Cpu → List ℕ
cpu_fields cpu = registers_fields cpu.x ++ field 8 cpu.pc

-- the saved processor behind a flag, where there is one
abbrev pub slot_fields : Option Cpu → List ℕ
slot_fields None = field 1 0
slot_fields (Some cpu) = field 1 1 ++ cpu_fields cpu

-- a block: its number in two bytes, and its bytes
abbrev pub block_fields : Block → List ℕ
block_fields block = field 2 block.number ++ block.bytes

-- blocks: how many they are, in two bytes, and each behind the one before
abbrev pub blocks_fields : List Block → List ℕ
blocks_fields blocks = field 2 (length blocks) ++ flat_map block_fields blocks

-- how a process starts
abbrev pub start_fields : Start → List ℕ
start_fields s = cpu_fields s.cpu ++ slot_fields s.slot ++ blocks_fields s.blocks

-- a number of eight bytes
abbrev pub IsRegister : ℕ → Type 0
IsRegister n = n < 2 ^ 64

-- there are 31 registers, and each fits its field
pub record AreRegisters (registers : List ℕ) : Type 0 where
  pub many : length registers ≡ REGISTERS
  pub fits : All IsRegister registers

-- the numbers of a processor fit their fields
abbrev pub FitsCpu : Cpu → Type 0
FitsCpu cpu = AreRegisters cpu.x × (cpu.pc < 2 ^ 64)

-- the same of the saved processor
abbrev pub FitsSlot : Option Cpu → Type 0
FitsSlot None = Unit {0}
FitsSlot (Some cpu) = FitsCpu cpu

-- a block has 256 bytes, and its number fits its field
abbrev pub FitsBlock : Block → Type 0
FitsBlock block = (block.number < 2 ^ 16) × (length block.bytes ≡ 256)

-- the numbers of a start fit their fields
abbrev pub FitsStart : Start → Type 0
FitsStart s = FitsCpu s.cpu × FitsSlot s.slot × All FitsBlock s.blocks

-- two bytes hold how many blocks there are
abbrev pub StartHasSpelling : Start → Type 0
StartHasSpelling s = length s.blocks < 2 ^ 16

-- the bytes begin with registers
pub record BeginsRegisters (bytes registers rest : List ℕ) : Type 0 where
  pub fits : AreRegisters registers
  pub is_bytes : bytes ≡ registers_fields registers ++ rest

-- the bytes begin with a processor
pub record BeginsCpu (bytes : List ℕ) (cpu : Cpu) (rest : List ℕ) : Type 0 where
  pub fits : FitsCpu cpu
  pub is_bytes : bytes ≡ cpu_fields cpu ++ rest

-- the bytes begin with a saved processor, or with none
pub record BeginsSlot (bytes : List ℕ) (slot : Option Cpu) (rest : List ℕ) : Type 0 where
  pub fits : FitsSlot slot
  pub is_bytes : bytes ≡ slot_fields slot ++ rest

-- the bytes begin with a count of blocks, and with the fields of so many
pub record BeginsBlocks (bytes fields rest : List ℕ) : Type 0 where
  pub count : ℕ
  pub fits : count < 2 ^ 16
  pub is_whole : length fields ≡ BLOCK_LEN * count
  pub is_bytes : bytes ≡ field 2 count ++ fields ++ rest

-- the bytes begin with how a process starts, and with the fields of its blocks
pub record BeginsStart (bytes : List ℕ) (cpu : Cpu) (slot : Option Cpu) (fields rest : List ℕ) : Type 0 where
  pub behind : List ℕ
  pub last : List ℕ
  pub is_cpu : BeginsCpu bytes cpu behind
  pub is_slot : BeginsSlot behind slot last
  pub are_blocks : BeginsBlocks last fields rest
