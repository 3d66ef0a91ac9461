-- The numbers of an event's bytes.
use Rattle.std.specs.Prelude.{◌≡◌, ℕ, ◌<◌, List, length, slice_index}
use Rattle.taint_spans.specs.Numbered.{IsItem, Numbered}
use Rattle.taint_pages.specs.Rows.{byte_in}

-- so many bytes, each of which takes nothing
pub record AreEmpty (count : ℕ) (numbers : List ℕ) : Type 0 where
  pub len : length numbers ≡ count
  pub all : (k : ℕ) → k < count → slice_index numbers k ≡ 0

-- or is an item by itself
pub record AreReceived (sets : Numbered) (event count : ℕ) (numbers : List ℕ) : Type 0 where
  pub len : length numbers ≡ count
  pub items : (k : ℕ) → k < count → IsItem sets event k (slice_index numbers k)

-- or has the number that it has in memory
pub record AreGiven (number : ℕ → ℕ) (count : ℕ) (numbers : List ℕ) : Type 0 where
  pub len : length numbers ≡ count
  pub same : (k : ℕ) → k < count → slice_index numbers k ≡ number k

-- the bytes of an exit, of which the first takes the lowest byte of x10
pub record IsStatus (registers : List ℕ) (count : ℕ) (numbers : List ℕ) : Type 0 where
  pub len : length numbers ≡ count
  pub first : 0 < count → slice_index numbers 0 ≡ byte_in registers 10 0
  pub others : (k : ℕ) → 0 < k → k < count → slice_index numbers k ≡ 0
