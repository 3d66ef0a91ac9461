-- How many bytes an instruction loads.
use Rattle.std.specs.Prelude.{ℕ}
use Rattle.rv64_isa.specs.declared.instruction.Instr.{Instr}
use Rattle.rv64_isa.specs.declared.instruction.Instr.TheVariants.{Load}
use Rattle.rv64_model.specs.Values.{load_len}

abbrev pub loaded_len : Instr → ℕ
loaded_len (Load op rd rs1 imm) = load_len op
loaded_len other = 0
