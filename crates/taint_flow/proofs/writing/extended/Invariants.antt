use Rattle.std.proofs.Common.{◌≡◌, ◌<◌, ℕ, length, slice_index}
use Rattle.rv64_model.specs.Carries.{within_width}
use Rattle.taint_flow.specs.Gathered.{byte_count}
use Rattle.taint_flow.proofs.writing.extended.Given as goal

abbrev pub invariant-loop-byte : goal.invariant-loop-byte
invariant-loop-byte l = record {
  len : length l.extended ≡ byte_count;
  same : (k : ℕ) → k < l.byte → slice_index l.extended k ≡ slice_index l.numbers (within_width l.width k);
}
