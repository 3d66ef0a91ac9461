-- What a process sees: its registers, and the bytes that it can reach.
use Rattle.std.specs.Prelude.{ℕ, ◌-◌, ◌+◌, ◌%◌, ◌^◌, Bool, List, [], ◌∷◌, ◌++◌, length, take, replicate, Option, is_some, option_map, unwrap_or}
use Rattle.arn_base.specs.declared.machine.Cpu.{Cpu}
use Rattle.arn_base.specs.Window.{Window, bytes_at, with_bytes}
use Rattle.parts_model.specs.declared.limits.TheConstants.{WINDOW_START, WINDOW_END, WINDOW_LEN}
use Rattle.parts_model.specs.Image.{Image}
use Rattle.parts_model.specs.Memory.{windows}
use Rattle.rv64_model.specs.Registers.{register, with_register}
use Rattle.rv64_model.specs.Instruction.{Effect, instruction, advanced}
use Rattle.acts_model.specs.Bodies.{View}

-- the windows that are present
abbrev pub reach : View → List Window
reach v = windows v.window (option_map (λ made. v.segment) v.body.segment)

-- the bytes at an address, where they lie whole in one window
abbrev pub bytes_in : View → ℕ → ℕ → Option (List ℕ)
bytes_in v at len = bytes_at (reach v) at len

-- they do
abbrev pub can_reach : View → ℕ → ℕ → Bool
can_reach v at len = is_some (bytes_in v at len)

-- the bytes, none where they don't
abbrev pub read : View → ℕ → ℕ → List ℕ
read v at len = unwrap_or (bytes_in v at len) []

-- other bytes in the windows
abbrev pub with_reach : List Window → View → View
with_reach [] v = v
with_reach (w ∷ []) v = record v { window = w.bytes }
with_reach (w ∷ s ∷ more) v = record v { window = w.bytes; segment = s.bytes }

-- the view after bytes are written at an address
abbrev pub written : ℕ → List ℕ → View → View
written at bytes v = with_reach (with_bytes (reach v) at bytes) v

-- other registers
abbrev pub with_cpu : Cpu → View → View
with_cpu cpu v = record v { body = record v.body { cpu = cpu } }

-- the instruction at which the process stands, and what it comes to
abbrev pub stands_at : View → Effect
stands_at v = instruction v.body.cpu (reach v)

-- what it sees after an instruction
abbrev pub after_instr : Cpu → List Window → View → View
after_instr cpu memory v = with_reach memory (with_cpu cpu v)

-- an error as a call's result
abbrev pub error : ℕ → ℕ
error number = 2 ^ 64 - number

-- a call's number, and its arguments from 0 on
abbrev pub call_number : Cpu → ℕ
call_number cpu = register cpu 17

abbrev pub argument : Cpu → ℕ → ℕ
argument cpu k = register cpu (10 + k)

-- the registers behind a call: x10 is its result
abbrev pub returned : Cpu → ℕ → Cpu
returned cpu result = advanced (with_register cpu 10 result)

abbrev pub with_result : ℕ → View → View
with_result result v = with_cpu (returned v.body.cpu result) v

-- bytes at an offset of a list of so many zeros
abbrev pub among_zeros : ℕ → ℕ → List ℕ → List ℕ
among_zeros len offset bytes = replicate offset 0 ++ bytes ++ replicate (len - (offset + length bytes)) 0

-- where an argument block of so many bytes begins: it ends where the window does
abbrev pub block_at : ℕ → ℕ
block_at len = WINDOW_END - len

-- the private window of a process that starts: the image's body, and over it the argument block
abbrev pub window_at_start : Image → List ℕ → List ℕ
window_at_start image block =
    take (block_at (length block) - WINDOW_START) (among_zeros WINDOW_LEN (image.load - WINDOW_START) image.body) ++ block

-- registers of 0, and pc
abbrev pub cpu_at : ℕ → Cpu
cpu_at pc = record { x = replicate 31 0; pc = pc }

-- the registers of a process that starts: x10 and x11 are the block's address and length, x2 that address rounded down to a multiple of 16
abbrev pub cpu_at_start : ℕ → ℕ → Cpu
cpu_at_start entry len =
    let at = block_at len in
    with_register (with_register (with_register (cpu_at entry) 10 at) 11 len) 2 (at - at % 16)
