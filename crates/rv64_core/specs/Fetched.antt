-- Which instruction is fetched.
use Rattle.std.specs.Prelude.{List, Option, option_and_then}
use Rattle.arn_base.specs.Window.{Window, number_at}
use Rattle.arn_base.specs.declared.machine.Cpu.{Cpu}
use Rattle.rv64_isa.specs.Decoded.{decoded}
use Rattle.rv64_isa.specs.declared.instruction.Instr.{Instr}

-- the instruction of the word at pc, if a word stands there that is one
abbrev pub instr_at : Cpu → List Window → Option Instr
instr_at cpu memory = option_and_then decoded (number_at memory cpu.pc 4)
