-- Numbers of the bytes of registers.
use Rattle.std.specs.Prelude.{◌≡◌, ℕ, ◌+◌, ◌*◌, ◌<◌, ◌==◌, ◌&&◌, nat_lt, if◌then◌else◌, Bool, true, false, List, length, slice_index, slice_index_or}

-- the number of byte i of register r
abbrev pub byte_in : List ℕ → ℕ → ℕ → ℕ
byte_in row r i = slice_index row (8 * r + i)

-- there are 32 registers of 8 bytes
abbrev pub row_len : ℕ
row_len = 256

-- the bytes of x0 have 0
pub record IsRow (row : List ℕ) : Type 0 where
  pub len : length row ≡ row_len
  pub zero : (i : ℕ) → i < 8 → slice_index row i ≡ 0

-- each byte of a register that isn't marked has 0
pub record AreMarked (row : List ℕ) (marked : List Bool) : Type 0 where
  pub len : length marked ≡ 32
  pub zero : (r i : ℕ) → slice_index_or marked r true ≡ false → i < 8 → byte_in row r i ≡ 0

-- one byte of one register has another number
abbrev pub SetsByte : ℕ → ℕ → ℕ → List ℕ → List ℕ → Type 0
SetsByte reg byte number old new = (r i : ℕ) → i < 8 → byte_in new r i ≡ (if (r == reg) && (i == byte) then number else byte_in old r i)

-- the numbers of the bytes of one register
pub record AreBytes (row : List ℕ) (reg : ℕ) (numbers : List ℕ) : Type 0 where
  pub len : length numbers ≡ 8
  pub bytes : (i : ℕ) → i < 8 → slice_index numbers i ≡ byte_in row reg i

-- all bytes of one register have other numbers
abbrev pub PutsBytes : ℕ → List ℕ → List ℕ → List ℕ → Type 0
PutsBytes reg numbers old new = (r i : ℕ) → i < 8 → byte_in new r i ≡ (if r == reg then slice_index numbers i else byte_in old r i)

-- all bytes of one register have 0
abbrev pub ClearsBytes : ℕ → List ℕ → List ℕ → Type 0
ClearsBytes reg old new = (r i : ℕ) → i < 8 → byte_in new r i ≡ (if r == reg then 0 else byte_in old r i)

-- all bytes of one register have the numbers of those of another
abbrev pub CopiesBytes : ℕ → ℕ → List ℕ → List ℕ → Type 0
CopiesBytes source reg old new = (r i : ℕ) → i < 8 → byte_in new r i ≡ (if r == reg then byte_in old source i else byte_in old r i)

-- number i of so many from a place on, 0 behind them
abbrev pub number_from : List ℕ → ℕ → ℕ → ℕ → ℕ
number_from numbers at count i = if nat_lt i count then slice_index numbers (at + i) else 0

-- the bytes of one register have the numbers of so many bytes from a place on, and zeros behind them
abbrev pub PutsFrom : List ℕ → ℕ → ℕ → ℕ → List ℕ → List ℕ → Type 0
PutsFrom numbers at count reg old new = (r i : ℕ) → i < 8 → byte_in new r i ≡ (if r == reg then number_from numbers at count i else byte_in old r i)
