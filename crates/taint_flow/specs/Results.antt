-- The sets of an instruction's result.
use Rattle.std.specs.Prelude.{◌≡◌, ◌↔◌, ℕ, ◌<◌, List, length, slice_index, Contains}
use Rattle.rv64_model.specs.Carries.{Operand}
use Rattle.set_store.specs.declared.item.Item.{Item}
use Rattle.taint_spans.specs.Numbered.{IsSet, Numbered, members_of}
use Rattle.taint_flow.specs.Gathered.{byte_count}

-- an item is in the set of one of these operands
pub record IsFrom (sets : Numbered) (number : Operand → ℕ) (operands : List Operand) (item : Item) : Type 0 where
  pub operand : Operand
  pub named : Contains operands operand
  pub member : Contains (members_of sets (number operand)) item

-- the set has exactly the members of these operands' sets
pub record TakesOperands (old new : Numbered) (number : Operand → ℕ) (operands : List Operand) (set : ℕ) : Type 0 where
  pub there : IsSet new set
  pub members : (item : Item) → Contains (members_of new set) item ↔ IsFrom old number operands item

-- the set of each byte has those of the operands that the byte takes
pub record AreResults (old new : Numbered) (number : Operand → ℕ) (operands : ℕ → List Operand) (numbers : List ℕ) : Type 0 where
  pub len : length numbers ≡ byte_count
  pub bytes : (byte : ℕ) → byte < byte_count → TakesOperands old new number (operands byte) (slice_index numbers byte)
