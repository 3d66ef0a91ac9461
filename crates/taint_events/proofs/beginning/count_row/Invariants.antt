use Rattle.std.proofs.Common.{◌≡◌, ◌<◌, ◌≤◌, ◌+◌, ◌*◌, ◌-◌, ℕ}
use Rattle.taint_pages.specs.Rows.{byte_in}
use Rattle.taint_events.proofs.beginning.count_row.Given as goal

abbrev pub invariant-loop-below : goal.invariant-loop-below
invariant-loop-below l = (r i : ℕ) → 0 < r → r ≤ l.below → i < 8 → byte_in l.row r i ≡ l.first + (8 * (r - 1) + i)
