-- The sets of several bytes.
use Rattle.std.specs.Prelude.{◌≡◌, ◌⊎◌, ◌↔◌, ℕ, ◌<◌, IsTrue, List, length, slice_index, Contains}
use Rattle.rv64_model.specs.Carries.{Operand, Left, Right, Loaded, Address}
use Rattle.set_store.specs.declared.item.Item.{Item}
use Rattle.taint_spans.specs.Numbered.{IsSet, Numbered, members_of}
use Rattle.link_rules.specs.declared.masks.Operands.{Operands}
use Rattle.link_rules.specs.Masks.{has_byte, is_in}

-- how many bytes a register has
abbrev pub byte_count : ℕ
byte_count = 8

-- the numbers of the sets of so many bytes
pub record AreNumbers (sets : Numbered) (numbers : List ℕ) : Type 0 where
  pub len : length numbers ≡ byte_count
  pub set : (byte : ℕ) → byte < byte_count → IsSet sets (slice_index numbers byte)

-- a set has the members of another
abbrev pub Includes : Numbered → ℕ → ℕ → Type 0
Includes sets set other = (item : Item) → Contains (members_of sets other) item → Contains (members_of sets set) item

-- the set has the members of another, and those of a byte's set where a mask has the byte
pub record AddsByte (old new : Numbered) (start mask byte number set : ℕ) : Type 0 where
  pub there : IsSet new set
  pub members : (item : Item) → Contains (members_of new set) item
      ↔ (Contains (members_of old start) item ⊎ (IsTrue (has_byte mask byte) × Contains (members_of old number) item))

-- an item is in the set of a byte below n that a mask has
pub record IsAmong (sets : Numbered) (numbers : List ℕ) (mask n : ℕ) (item : Item) : Type 0 where
  pub byte : ℕ
  pub below : byte < n
  pub named : IsTrue (has_byte mask byte)
  pub member : Contains (members_of sets (slice_index numbers byte)) item

-- the set has the members of another, and those of all bytes' sets below n that a mask has
pub record TakesBytes (old new : Numbered) (numbers : List ℕ) (mask n start set : ℕ) : Type 0 where
  pub there : IsSet new set
  pub members : (item : Item) → Contains (members_of new set) item ↔ (Contains (members_of old start) item ⊎ IsAmong old numbers mask n item)

-- the number of an operand's set
abbrev pub number_of : List ℕ → List ℕ → List ℕ → Operand → ℕ
number_of first second loaded (Left i) = slice_index first i
number_of first second loaded (Right i) = slice_index second i
number_of first second loaded (Loaded k) = slice_index loaded k
number_of first second loaded (Address i) = slice_index first i

-- an item is in the set of an operand that masks have
pub record IsTaken (sets : Numbered) (number : Operand → ℕ) (masks : Operands) (item : Item) : Type 0 where
  pub operand : Operand
  pub named : IsTrue (is_in masks operand)
  pub member : Contains (members_of sets (number operand)) item

-- the set has exactly the members of the operands' sets that masks have
pub record Gathers (old new : Numbered) (first second loaded : List ℕ) (masks : Operands) (set : ℕ) : Type 0 where
  pub there : IsSet new set
  pub members : (item : Item) → Contains (members_of new set) item ↔ IsTaken old (number_of first second loaded) masks item
