use Rattle.std.proofs.Common.{◌≡◌, ◌<◌, ℕ, length, slice_index}
use Rattle.taint_events.proofs.bytes.empty.Given as goal

abbrev pub invariant-loop : goal.invariant-loop
invariant-loop l = record {
  len : length l.numbers.items ≡ l.counter;
  all : (k : ℕ) → k < length l.numbers.items → slice_index l.numbers.items k ≡ 0;
}
