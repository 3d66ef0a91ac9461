-- Memories whose sets are carried over.
use Rattle.std.specs.Prelude.{◌≡◌, ℕ, [], length, slice_index_or}
use Rattle.taint_members.specs.Access.{Memories}
use Rattle.taint_spans.specs.Carried.{Carried, HaveNumbers}

-- each byte of each memory has the number that its set has from now on
pub record CarriesMemories (sets : Carried) (old new : Memories) : Type 0 where
  pub count : length new ≡ length old
  pub each : (key : ℕ) → HaveNumbers sets (slice_index_or old key []) (slice_index_or new key [])
