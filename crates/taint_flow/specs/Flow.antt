-- Where the bytes of a result come from.
use Rattle.std.specs.Prelude.{◌≡◌, ◌≢◌, ◌≤◌, ℕ, suc, ◌<◌, nat_lt, List, [], ◌∷◌, ◌++◌, length, slice_index}
use Rattle.rv64_model.specs.Carries.{Operand, Left, Right, Loaded, both, first_bytes, taken_if, within_width}
use Rattle.taint_flow.specs.declared.flow.Flow.{Flow}
use Rattle.taint_flow.specs.declared.flow.Flow.TheVariants.{Nothing, First, Second, Memory, Extended, Rising, Carried, Whole, Bytewise, Mixed}
use Rattle.taint_flow.specs.Gathered.{byte_count}

-- how many bytes from the lowest on byte i of a result of `width` bytes is worked out from
abbrev pub reach : ℕ → ℕ → ℕ
reach width i = suc (within_width width i)

-- a width has bytes, and no more than a register
abbrev pub IsWidth : ℕ → Type 0
IsWidth width = (0 < width) × (width ≤ byte_count)

-- which operands each byte of a result takes. But for `Nothing`, byte 0 takes something
abbrev pub IsFlow : Flow → (ℕ → List Operand) → Type 0
IsFlow Nothing operands = (byte : ℕ) → operands byte ≡ []
IsFlow First operands = (byte : ℕ) → byte < byte_count → operands byte ≡ Left byte ∷ []
IsFlow (Second len) operands = (0 < len) × ((byte : ℕ) → operands byte ≡ taken_if (nat_lt byte len) (Right byte))
IsFlow (Memory len) operands = (0 < len) × ((byte : ℕ) → operands byte ≡ taken_if (nat_lt byte len) (Loaded byte))
IsFlow (Extended width) operands = IsWidth width × ((byte : ℕ) → operands byte ≡ Loaded (within_width width byte) ∷ [])
IsFlow (Rising width) operands = IsWidth width × ((byte : ℕ) → operands byte ≡ first_bytes Left (reach width byte))
IsFlow (Carried width) operands = IsWidth width × ((byte : ℕ) → operands byte ≡ first_bytes Left (reach width byte) ++ first_bytes Right (reach width byte))
IsFlow (Whole width) operands = IsWidth width × ((byte : ℕ) → operands byte ≡ first_bytes Left width)
IsFlow Bytewise operands = (byte : ℕ) → byte < byte_count → operands byte ≡ both byte
IsFlow Mixed operands = operands 0 ≢ []

-- the first numbers as they are, and zeros behind them
pub record Moves (numbers : List ℕ) (count : ℕ) (moved : List ℕ) : Type 0 where
  pub len : length moved ≡ byte_count
  pub same : (byte : ℕ) → byte < byte_count → byte < count → slice_index moved byte ≡ slice_index numbers byte
  pub none : (byte : ℕ) → byte < byte_count → count ≤ byte → slice_index moved byte ≡ 0

-- the first numbers as they are, and that of the last of them behind
pub record Extends (numbers : List ℕ) (width : ℕ) (extended : List ℕ) : Type 0 where
  pub len : length extended ≡ byte_count
  pub same : (byte : ℕ) → byte < byte_count → slice_index extended byte ≡ slice_index numbers (within_width width byte)

-- those of the first register
abbrev pub IsFirst : Flow → Type 0
IsFirst First = Unit {0}
IsFirst other = ⊥

-- the bytes that are loaded, and nothing behind them
abbrev pub IsMemory : Flow → Type 0
IsMemory (Memory len) = Unit {0}
IsMemory other = ⊥

-- those of the second register, and nothing behind them
abbrev pub IsSecond : Flow → Type 0
IsSecond (Second len) = Unit {0}
IsSecond other = ⊥
