-- The fields of which spellings are made. Numbers stand in little-endian order.
use Rattle.std.specs.Prelude.{◌≡◌, ℕ, ◌<◌, ◌≤◌, ◌^◌, Bool, true, false, List, ◌++◌, length}
use Rattle.byteorder.specs.Endian.{little_bytes}
use Rattle.parts_model.specs.declared.limits.TheConstants.{MOST_NAME_BYTES}

-- a number in so many bytes, the lowest byte first
abbrev pub field : ℕ → ℕ → List ℕ
field width n = little_bytes width n

-- a flag in one byte
abbrev pub flag_field : Bool → List ℕ
flag_field false = field 1 0
flag_field true = field 1 1

-- a list of bytes: how many they are, in four bytes, and the bytes
abbrev pub counted : List ℕ → List ℕ
counted bytes = field 4 (length bytes) ++ bytes

-- a name: how many bytes it has, in one byte, and the bytes
abbrev pub named : List ℕ → List ℕ
named name = field 1 (length name) ++ name

-- a name has 1 to 64 bytes
abbrev pub IsName : List ℕ → Type 0
IsName name = (1 ≤ length name) × (length name ≤ MOST_NAME_BYTES)

-- four bytes hold how many items a list has
abbrev pub IsCounted : {X : Type 0} → List X → Type 0
IsCounted items = length items < 2 ^ 32

-- the old bytes, and behind them any
pub record LeavesFront (old new : List ℕ) : Type 0 where
  pub more : List ℕ
  pub is_bytes : new ≡ old ++ more

-- the bytes begin with a flag
pub record BeginsFlag (bytes : List ℕ) (flag : Bool) (rest : List ℕ) : Type 0 where
  pub is_bytes : bytes ≡ flag_field flag ++ rest

-- the bytes begin with a list of bytes behind its length
pub record BeginsCounted (bytes found rest : List ℕ) : Type 0 where
  pub is_counted : IsCounted found
  pub is_bytes : bytes ≡ counted found ++ rest

-- the bytes begin with a name behind its length
pub record BeginsNamed (bytes name rest : List ℕ) : Type 0 where
  pub is_name : IsName name
  pub is_bytes : bytes ≡ named name ++ rest

-- they begin with no other list
abbrev pub OnlyCounted : List ℕ → List ℕ → List ℕ → Type 0
OnlyCounted bytes found rest =
    (other behind : List ℕ) → BeginsCounted bytes other behind → (other ≡ found) × (behind ≡ rest)

-- they begin with no other name
abbrev pub OnlyNamed : List ℕ → List ℕ → List ℕ → Type 0
OnlyNamed bytes name rest =
    (other behind : List ℕ) → BeginsNamed bytes other behind → (other ≡ name) × (behind ≡ rest)
