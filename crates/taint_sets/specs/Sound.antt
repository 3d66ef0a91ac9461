-- What holds of received bytes.
use Rattle.std.specs.Prelude.{ℕ, ◌+◌, ◌<◌, ◌≤◌, List, length}
use Rattle.taint_sets.specs.declared.run.Run.{Run}
use Rattle.taint_sets.specs.Numbered.{first_received}
use Rattle.taint_sets.specs.Runs.{AreInOrder, run_at}

-- the runs are in order, and all their numbers are below the next one, which is that of a received byte
pub record IsSound (runs : List Run) (next : ℕ) : Type 0 where
  pub order : AreInOrder runs
  pub below : (i : ℕ) → i < length runs → (run_at runs i).first + (run_at runs i).len ≤ next
  pub received : first_received ≤ next
