-- Whether a process stands at a call, and at which.
use Rattle.std.specs.Prelude.{ℕ, ◌==◌, ◌||◌, Bool, true, false, Option, None, Some}
use Rattle.parts_model.specs.declared.calls.TheConstants.{ACCEPT, READ, WAIT, WRITE}
use Rattle.rv64_isa.specs.declared.instruction.Instr.{Instr}
use Rattle.rv64_isa.specs.declared.instruction.Instr.TheVariants.{Ecall}
use Rattle.rv64_model.specs.Instruction.{Effect, Next, Call, End}

-- the instruction is a call
abbrev pub is_call : Effect → Bool
is_call (Next instr cpu memory) = false
is_call Call = true
is_call (End status) = false

-- a word's instruction is a call
abbrev pub is_call_instr : Option Instr → Bool
is_call_instr None = false
is_call_instr (Some Ecall) = true
is_call_instr (Some instr) = false

-- calls of this number aren't always ready
abbrev pub can_wait : ℕ → Bool
can_wait n = n == READ || n == WRITE || n == WAIT || n == ACCEPT
