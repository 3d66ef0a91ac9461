use Rattle.std.proofs.Common.{◌≡◌, ◌≢◌, ◌<◌, ◌+◌, ℕ}
use Rattle.taint_pages.specs.Rows.{byte_in}
use Rattle.taint_events.proofs.beginning.count_register.Given as goal

abbrev pub invariant-loop-byte : goal.invariant-loop-byte
invariant-loop-byte l = record {
  counted : (i : ℕ) → i < l.byte → byte_in l.row l.reg i ≡ l.first + i;
  others : (r i : ℕ) → r ≢ l.reg → i < 8 → byte_in l.row r i ≡ byte_in l.fn.row r i;
}
