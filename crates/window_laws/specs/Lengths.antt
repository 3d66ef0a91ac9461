-- What instructions and writes do to the lengths of windows.
use Rattle.std.specs.Prelude.{◌≡◌, ℕ, ◌≤◌, List, [], length, map, unwrap_or}
use Rattle.arn_base.specs.declared.machine.Cpu.{Cpu}
use Rattle.arn_base.specs.Window.{Window, bytes_at, with_bytes}
use Rattle.rv64_isa.specs.declared.instruction.Instr.{Instr}
use Rattle.rv64_model.specs.Instruction.{Next}
use Rattle.acts_model.specs.Bodies.{View}
use Rattle.acts_model.specs.Views.{reach, stands_at}

-- how many bytes each window has
abbrev pub lengths : List Window → List ℕ
lengths windows = map (λ window. length window.bytes) windows

-- an instruction keeps the length of each window
abbrev pub InstructionsKeepLengths : Type 0
InstructionsKeepLengths = (v : View) (instr : Instr) (cpu : Cpu) (memory : List Window) → stands_at v ≡ Next instr cpu memory → lengths memory ≡ lengths (reach v)

-- so does a write
abbrev pub WritesKeepLengths : Type 0
WritesKeepLengths = (windows : List Window) (at : ℕ) (bytes : List ℕ) → lengths (with_bytes windows at bytes) ≡ lengths windows

-- what is read has no more bytes than were asked for
abbrev pub ReadsAreShort : Type 0
ReadsAreShort = (windows : List Window) (at len : ℕ) → length (unwrap_or (bytes_at windows at len) []) ≤ len

-- all of that
pub record KeepsLengths : Type 0 where
  pub instructions : InstructionsKeepLengths
  pub writes : WritesKeepLengths
  pub reads : ReadsAreShort
