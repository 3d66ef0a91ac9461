-- Spellings at a place of bytes.
use Rattle.std.specs.Prelude.{◌≡◌, ℕ, ◌≤◌, List, length, slice_range}

-- the bytes from `at` to `next` are these
pub record Stands (bytes : List ℕ) (at : ℕ) (spelled : List ℕ) (next : ℕ) : Type 0 where
  pub forward : at ≤ next
  pub within : next ≤ length bytes
  pub is_spelled : slice_range bytes at next ≡ spelled
