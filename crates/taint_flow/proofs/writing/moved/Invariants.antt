use Rattle.std.proofs.Common.{◌≡◌, ◌<◌, ◌≤◌, ℕ, length, slice_index}
use Rattle.taint_flow.specs.Gathered.{byte_count}
use Rattle.taint_flow.proofs.writing.moved.Given as goal

abbrev pub invariant-loop-byte : goal.invariant-loop-byte
invariant-loop-byte l = record {
  len : length l.moved ≡ byte_count;
  same : (k : ℕ) → k < l.byte → k < l.count → slice_index l.moved k ≡ slice_index l.numbers k;
  none : (k : ℕ) → k < l.byte → l.count ≤ k → slice_index l.moved k ≡ 0;
}
