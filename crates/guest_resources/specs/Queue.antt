-- A queue behind bytes that have left it.
use Rattle.std.specs.Prelude.{ℕ, ◌+◌, ◌-◌, ◌<◌, ◌≤◌, ◌^◌}

-- So many bytes have left it since it was made, and so many of the bytes that are held: all bytes that ever were in it can be counted.
pub record IsQueue (taken head len : ℕ) : Type 0 where
  pub within : head ≤ len
  pub few : taken + (len - head) < 2 ^ 64
