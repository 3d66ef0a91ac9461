-- What an outcome tells of an instruction.
use Rattle.std.specs.Prelude.{◌≡◌, ◌<◌, List}
use Rattle.arn_base.specs.declared.machine.Cpu.{Cpu}
use Rattle.arn_base.specs.Window.{Window}
use Rattle.rv64_isa.specs.declared.instruction.Instr.{Instr}
use Rattle.rv64_model.specs.Instruction.{Effect, Next, Call, End}
use Rattle.rv64_model.specs.Operands.{stored_len}
use Rattle.rv64_core.specs.declared.outcome.Outcome.{Outcome}
use Rattle.rv64_core.specs.declared.outcome.Outcome.TheVariants as outcome

-- an instruction that leads to these registers and this memory
pub record LeadsTo (effect : Effect) (cpu : Cpu) (memory : List Window) : Type 0 where
  pub instr : Instr
  pub is_next : effect ≡ Next instr cpu memory

-- a store that would take effect
pub record WouldStore (effect : Effect) : Type 0 where
  pub instr : Instr
  pub cpu : Cpu
  pub memory : List Window
  pub is_next : effect ≡ Next instr cpu memory
  pub stores : 0 < stored_len instr

-- The outcome says which effect it is, and the registers and the memory are those after it. Memory is wanted by a store alone.
abbrev pub Tells : Outcome → Effect → Cpu → List Window → Type 0
Tells outcome.Next effect cpu memory = LeadsTo effect cpu memory
Tells outcome.Call effect cpu memory = effect ≡ Call
Tells (outcome.End status) effect cpu memory = effect ≡ End status
Tells outcome.NoMemory effect cpu memory = WouldStore effect

-- a fact, unless the process goes on
abbrev pub OnStop : Outcome → Type 0 → Type 0
OnStop outcome.Next P = Unit {0}
OnStop outcome.Call P = P
OnStop (outcome.End status) P = P
OnStop outcome.NoMemory P = P
