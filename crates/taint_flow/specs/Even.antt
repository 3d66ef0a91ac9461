-- Bytes that share a set.
use Rattle.std.specs.Prelude.{◌≡◌, ◌⊎◌, ℕ, ◌<◌, List, slice_index, Contains}
use Rattle.rv64_model.specs.Carries.{Operand}
use Rattle.taint_flow.specs.Gathered.{byte_count}

-- a number is that of a set, or of the empty set
abbrev pub IsSetOrNone : ℕ → ℕ → Type 0
IsSetOrNone number set = (number ≡ set) ⊎ (number ≡ 0)

-- all bytes of a register have one set
abbrev pub HaveOne : List ℕ → ℕ → Type 0
HaveOne numbers set = (byte : ℕ) → byte < byte_count → slice_index numbers byte ≡ set

-- the lowest byte of a register has a set, and each other that set or none
pub record HaveLow (numbers : List ℕ) (set : ℕ) : Type 0 where
  pub lowest : slice_index numbers 0 ≡ set
  pub others : (byte : ℕ) → byte < byte_count → IsSetOrNone (slice_index numbers byte) set

-- one of these operands has the set
pub record HasSet (number : Operand → ℕ) (operands : List Operand) (set : ℕ) : Type 0 where
  pub operand : Operand
  pub named : Contains operands operand
  pub same : number operand ≡ set

-- each of these operands has one of two sets, or none, and each of the two is that of one
pub record HaveTwo (number : Operand → ℕ) (operands : List Operand) (left right : ℕ) : Type 0 where
  pub each : (operand : Operand) → Contains operands operand → IsSetOrNone (number operand) left ⊎ IsSetOrNone (number operand) right
  pub some_left : HasSet number operands left
  pub some_right : HasSet number operands right
