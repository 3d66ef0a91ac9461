-- The bytes of a pipe as they are kept.
use Rattle.std.specs.Prelude.{◌≡◌, ℕ, ◌+◌, ◌-◌, ◌<◌, ◌≤◌, ◌^◌, List, length, drop}
use Rattle.parts_model.specs.declared.limits.TheConstants.{MOST_PIPE_BYTES}
use Rattle.guest_pipes.specs.declared.runs.Run.{Run}
use Rattle.guest_pipes.specs.Runs.{AreRuns, places_of}

-- `taken` bytes have left the queue. Of the `len` bytes that are held the first `head` are among these, and of the first run's
-- places the first `gone`. All that ever were in the queue can be counted, and each byte that waits has its place
pub record IsQueue (taken head len gone : ℕ) (runs : List Run) : Type 0 where
  pub within : head ≤ len
  pub few : len - head ≤ MOST_PIPE_BYTES
  pub counted : taken + (len - head) < 2 ^ 64
  pub are_runs : AreRuns gone runs
  pub placed : length (drop gone (places_of runs)) ≡ len - head
