use Rattle.std.proofs.Common.{◌≡◌, ◌<◌, ◌==◌, ◌&&◌, nat_lt, if◌then◌else◌, ℕ, length}
use Rattle.taint_pages.specs.Rows.{byte_in}
use Rattle.taint_pages.proofs.row.Numbers.copy_bytes.Given as goal

abbrev pub invariant-loop-byte : goal.invariant-loop-byte
invariant-loop-byte l = record {
  bytes : (r i : ℕ) → i < 8 → byte_in l.self.numbers r i ≡ (if (r == l.fn.to) && nat_lt i l.byte then byte_in l.fn.self.numbers l.fn.from i else byte_in l.fn.self.numbers r i);
  len : length l.self.numbers ≡ length l.fn.self.numbers;
  marked : l.self.marked ≡ l.fn.self.marked;
}
