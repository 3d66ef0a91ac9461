-- Instructions that move no set.
use Rattle.std.specs.Prelude.{◌≡◌, ℕ, List, [], None, slice_index}
use Rattle.arn_base.specs.declared.machine.Cpu.{Cpu}
use Rattle.rv64_isa.specs.declared.instruction.Instr.{Instr}
use Rattle.rv64_model.specs.declared.linkage.Linkage.{Linkage}
use Rattle.rv64_model.specs.Carries.{operands}
use Rattle.rv64_model.specs.Operands.{accessed}

-- no byte of the result takes anything, and no memory is accessed, whatever the registers hold
pub record IsSilent (linkage : Linkage) (instr : Instr) : Type 0 where
  pub nothing : (byte : ℕ) → operands linkage instr byte ≡ []
  pub apart : (cpu : Cpu) → accessed instr cpu ≡ None

-- each byte has the empty set, whose number is 0
abbrev pub AreEmpty : List ℕ → Type 0
AreEmpty numbers = (byte : ℕ) → slice_index numbers byte ≡ 0
