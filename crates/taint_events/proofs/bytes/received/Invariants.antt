use Rattle.std.proofs.Common.{◌≡◌, ◌<◌, ◌+◌, ℕ, length, slice_index}
use Rattle.taint_events.proofs.bytes.received.Given as goal

abbrev pub invariant-loop-k : goal.invariant-loop-k
invariant-loop-k l = record {
  len : length l.numbers.items ≡ l.k;
  counted : (j : ℕ) → j < l.k → slice_index l.numbers.items j ≡ l.first + j;
}
