-- The 31 registers of a processor, and x0.
use Rattle.std.specs.Prelude.{ℕ, zero, suc, slice_set, slice_index}
use Rattle.arn_base.specs.declared.machine.Cpu.{Cpu}

-- register r, of which x0 is 0
abbrev pub register : Cpu → ℕ → ℕ
register cpu zero = 0
register cpu (suc i) = slice_index cpu.x i

-- the registers with another value in register r, where r isn't x0
abbrev pub with_register : Cpu → ℕ → ℕ → Cpu
with_register cpu zero v = cpu
with_register cpu (suc i) v = record cpu { x = slice_set cpu.x i v }
