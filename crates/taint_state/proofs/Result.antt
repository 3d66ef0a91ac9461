-- What the sets of an instruction's result show.
use Rattle.std.specs.Prelude.{ℕ, List, flat_map, Option, Contains}
use Rattle.rv64_isa.specs.declared.instruction.Instr.{Instr}
use Rattle.rv64_model.specs.Carries.{Operand, Table}
use Rattle.taint_spans.specs.Numbered.{Numbered, members_of}
use Rattle.acts_model.specs.Transfers.{Place}
use Rattle.lineage_model.specs.Flow.{At, Location, operand_bytes, result_bytes}
use Rattle.lineage_model.specs.Tracking.{EventByte, gather}
use Rattle.taint_flow.specs.Results.{TakesOperands}
use Rattle.taint_state.specs.Shown.{AreItems}

-- the set of each of these operands has the items of the bytes where the operand lies
abbrev pub OperandsShow : Numbered → (Operand → ℕ) → (Location → List EventByte) → ℕ → Instr → Option Place → List Operand → Type 0
OperandsShow sets number locations pid instr place operands =
    (operand : Operand) → Contains operands operand → AreItems (members_of sets (number operand)) (flat_map locations (operand_bytes pid instr place operand))

-- A set that has exactly what the operands' sets have has the items that tracking by lists gives the byte of the result.
abbrev pub ResultsShow : Type 0
ResultsShow =
    (table : Table) (pid : ℕ) (instr : Instr) (place : Option Place) (byte : ℕ) (given : At → List EventByte) (locations : Location → List EventByte)
    (old new : Numbered) (number : Operand → ℕ) (set : ℕ)
    → OperandsShow old number locations pid instr place (table instr byte)
    → TakesOperands old new number (table instr byte) set
    → AreItems (members_of new set) (gather given locations (result_bytes table pid instr place byte))
