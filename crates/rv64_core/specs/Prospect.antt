-- What a look ahead tells of an instruction.
use Rattle.std.specs.Prelude.{◌≡◌, List}
use Rattle.arn_base.specs.declared.machine.Cpu.{Cpu}
use Rattle.arn_base.specs.Window.{Window}
use Rattle.rv64_model.specs.Instruction.{Effect, Next, Call, End}
use Rattle.rv64_model.specs.Registers.{with_register}
use Rattle.rv64_core.specs.declared.outcome.Planned.{Planned}
use Rattle.rv64_core.specs.declared.outcome.Prospect.{Prospect}
use Rattle.rv64_core.specs.declared.outcome.Prospect.TheVariants as prospect

-- the registers after an instruction that was planned
abbrev pub cpu_after : Planned → Cpu → Cpu
cpu_after planned before = record (with_register before planned.rd planned.value) { pc = planned.pc }

-- the instruction takes effect: it leads to these registers, and to some memory
pub record IsPlanned (planned : Planned) (before : Cpu) (effect : Effect) : Type 0 where
  pub memory : List Window
  pub is_next : effect ≡ Next planned.instr (cpu_after planned before) memory

-- the prospect says which effect it is, and of an instruction that takes effect what it does to the registers
abbrev pub Foretells : Prospect → Cpu → Effect → Type 0
Foretells (prospect.Next planned) before effect = IsPlanned planned before effect
Foretells prospect.Call before effect = effect ≡ Call
Foretells (prospect.End status) before effect = effect ≡ End status
