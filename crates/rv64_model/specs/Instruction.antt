-- One instruction by the manual: it is fetched, then decoded, then it takes effect.
use Rattle.std.specs.Prelude.{ℕ, ◌+◌, ◌-◌, ◌%◌, ◌^◌, ◌==◌, Bool, true, false, if◌then◌else◌, List, Option, Some, None, is_some, option_map}
use Rattle.arn_base.specs.declared.machine.Cpu.{Cpu}
use Rattle.arn_base.specs.Window.{Window, bytes_at, with_bytes, bytes_of, number_at}
use Rattle.rv64_isa.specs.declared.instruction.Instr.{Instr}
use Rattle.rv64_isa.specs.declared.instruction.Instr.TheVariants.{Lui, Auipc, Jal, Jalr, Branch, Load, Store, Imm, Op, Fence, Ecall, Ebreak}
use Rattle.rv64_isa.specs.Decoded.{decoded}
use Rattle.rv64_model.specs.declared.statuses.TheConstants.{ILLEGAL_INSTRUCTION, BREAKPOINT, MISALIGNED, BAD_ACCESS}
use Rattle.rv64_model.specs.Registers.{register, with_register}
use Rattle.rv64_model.specs.Values.{immediate, sum, reg_result, imm_result, is_taken, load_len, load_result}
use Rattle.rv64_model.specs.Operands.{address, store_len}

-- what an instruction comes to: it took effect and the next one may run, it is a call of the kernel, or it ends the process with a
-- status
pub data Effect : Type 0 where
  Next : Instr → Cpu → List Window → Effect
  Call : Effect
  End : ℕ → Effect

-- the address of the next word
abbrev pub next_pc : Cpu → ℕ
next_pc cpu = (cpu.pc + 4) % 2 ^ 64

-- pc moves on to the next word
abbrev pub advanced : Cpu → Cpu
advanced cpu = record cpu { pc = next_pc cpu }

-- an instruction that writes a register, and moves pc on
abbrev pub writes : Instr → Cpu → List Window → ℕ → ℕ → Effect
writes instr cpu memory rd value = Next instr (advanced (with_register cpu rd value)) memory

-- the registers after a jump: rd is the link, the address of the next word
abbrev pub jumped : Cpu → ℕ → ℕ → Cpu
jumped cpu rd target = record (with_register cpu rd (next_pc cpu)) { pc = target }

-- a jump to a target that is no multiple of 4 ends the process and writes no register
abbrev pub jumps : Instr → Cpu → List Window → ℕ → ℕ → Effect
jumps instr cpu memory rd target =
    if target % 4 == 0 then Next instr (jumped cpu rd target) memory else End MISALIGNED

-- a branch that is taken is a jump without a link
abbrev pub branches : Instr → Cpu → List Window → Bool → ℕ → Effect
branches instr cpu memory false target = Next instr (advanced cpu) memory
branches instr cpu memory true target = jumps instr cpu memory 0 target

-- the number with bit 0 cleared
abbrev pub without_bit_0 : ℕ → ℕ
without_bit_0 number = number - number % 2

-- a load of what stands at an address, if it lies whole in one window
abbrev pub loads : Instr → Cpu → List Window → ℕ → Option ℕ → Effect
loads instr cpu memory rd None = End BAD_ACCESS
loads instr cpu memory rd (Some value) = writes instr cpu memory rd value

-- a store of the low bytes of a value at an address, if these bytes lie whole in one window
abbrev pub stores : Instr → Cpu → List Window → ℕ → ℕ → ℕ → Effect
stores instr cpu memory at len value =
    if is_some (bytes_at memory at len) then Next instr (advanced cpu) (with_bytes memory at (bytes_of len value)) else End BAD_ACCESS

-- what an instruction does
abbrev pub executed : Instr → Cpu → List Window → Effect
executed (Lui rd imm) cpu memory = writes (Lui rd imm) cpu memory rd (immediate imm)
executed (Auipc rd imm) cpu memory = writes (Auipc rd imm) cpu memory rd (sum cpu.pc (immediate imm))
executed (Jal rd imm) cpu memory = jumps (Jal rd imm) cpu memory rd (sum cpu.pc (immediate imm))
executed (Jalr rd rs1 imm) cpu memory = jumps (Jalr rd rs1 imm) cpu memory rd (without_bit_0 (sum (register cpu rs1) (immediate imm)))
executed (Branch op rs1 rs2 imm) cpu memory =
    branches (Branch op rs1 rs2 imm) cpu memory (is_taken op (register cpu rs1) (register cpu rs2)) (sum cpu.pc (immediate imm))
executed (Load op rd rs1 imm) cpu memory =
    loads (Load op rd rs1 imm) cpu memory rd (option_map (load_result op) (number_at memory (address cpu rs1 imm) (load_len op)))
executed (Store op rs1 rs2 imm) cpu memory =
    stores (Store op rs1 rs2 imm) cpu memory (address cpu rs1 imm) (store_len op) (register cpu rs2)
executed (Imm op rd rs1 imm) cpu memory = writes (Imm op rd rs1 imm) cpu memory rd (imm_result op (register cpu rs1) imm)
executed (Op op rd rs1 rs2) cpu memory = writes (Op op rd rs1 rs2) cpu memory rd (reg_result op (register cpu rs1) (register cpu rs2))
executed (Fence word) cpu memory = Next (Fence word) (advanced cpu) memory
executed Ecall cpu memory = Call
executed Ebreak cpu memory = End BREAKPOINT

-- a word that is no instruction ends the process
abbrev pub executed_if : Option Instr → Cpu → List Window → Effect
executed_if None cpu memory = End ILLEGAL_INSTRUCTION
executed_if (Some instr) cpu memory = executed instr cpu memory

-- a fetch from outside the windows ends the process
abbrev pub fetched : Option ℕ → Cpu → List Window → Effect
fetched None cpu memory = End BAD_ACCESS
fetched (Some word) cpu memory = executed_if (decoded word) cpu memory

-- the instruction at pc
abbrev pub instruction : Cpu → List Window → Effect
instruction cpu memory = fetched (number_at memory cpu.pc 4) cpu memory
