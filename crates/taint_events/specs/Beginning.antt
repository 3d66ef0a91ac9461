-- The numbers of a member that begins without a parent: each byte is an item by itself.
use Rattle.std.specs.Prelude.{◌≡◌, ◌≢◌, ℕ, ◌+◌, ◌-◌, ◌*◌, ◌<◌, List, length, slice_index}
use Rattle.parts_model.specs.declared.limits.TheConstants.{WINDOW_START}
use Rattle.taint_spans.specs.Numbered.{IsItem, Numbered}
use Rattle.taint_events.specs.Starting.{window_len}
use Rattle.taint_pages.specs.Rows.{byte_in}

-- the bytes of one register have the numbers from this one on, and all others have what they had
pub record CountsRegister (reg first : ℕ) (old new : List ℕ) : Type 0 where
  pub counted : (i : ℕ) → i < 8 → byte_in new reg i ≡ first + i
  pub others : (r i : ℕ) → r ≢ reg → i < 8 → byte_in new r i ≡ byte_in old r i

-- so have those of all registers
abbrev pub Counts : ℕ → List ℕ → Type 0
Counts first row = (r i : ℕ) → 0 < r → r < 32 → i < 8 → byte_in row r i ≡ first + (8 * (r - 1) + i)

-- the bytes of all registers are items, from this one on
abbrev pub AreItemsOfRow : Numbered → ℕ → ℕ → List ℕ → Type 0
AreItemsOfRow sets event first row = (r i : ℕ) → 0 < r → r < 32 → i < 8 → IsItem sets event (first + (8 * (r - 1) + i)) (byte_in row r i)

-- but for the result of the fork
pub record BeginsRegisters (sets : Numbered) (event : ℕ) (row : List ℕ) : Type 0 where
  pub items : (r i : ℕ) → 0 < r → r < 32 → r ≢ 10 → i < 8 → IsItem sets event (8 * (r - 1) + i) (byte_in row r i)
  pub result : (i : ℕ) → i < 8 → byte_in row 10 i ≡ 0

-- the bytes of a window are, by address
pub record AreItemsFrom (sets : Numbered) (event : ℕ) (window : List ℕ) : Type 0 where
  pub len : length window ≡ window_len
  pub items : (k : ℕ) → k < window_len → IsItem sets event (WINDOW_START + k) (slice_index window k)
