use Rattle.std.proofs.Common.{◌≡◌, ◌<◌, ℕ, ◌+◌, List, length, slice_index}
use Rattle.rv64_model.specs.Carries.{Left, first_bytes}
use Rattle.taint_spans.specs.Numbered.{StandAsBefore}
use Rattle.taint_flow.specs.Flow.{reach}
use Rattle.taint_flow.specs.Gathered.{byte_count, number_of}
use Rattle.taint_flow.specs.Results.{TakesOperands}
use Rattle.taint_flow.proofs.working.rising.Given as goal

abbrev pub invariant-loop-byte : goal.invariant-loop-byte
invariant-loop-byte l = record {
  len : length l.numbers ≡ byte_count;
  set : (second loaded : List ℕ) → TakesOperands l.fn.sets l.sets (number_of l.first second loaded) (first_bytes Left l.byte) l.set;
  bytes : (second loaded : List ℕ) (k : ℕ) → k < l.byte → TakesOperands l.fn.sets l.sets (number_of l.first second loaded) (first_bytes Left (k + 1)) (slice_index l.numbers k);
  before : StandAsBefore l.fn.sets l.sets;
}

abbrev pub invariant-loop-byte-2 : goal.invariant-loop-byte-2
invariant-loop-byte-2 l = record {
  len : length l.numbers ≡ byte_count;
  bytes : (second loaded : List ℕ) (k : ℕ) → k < l.byte → TakesOperands l.fn.sets l.sets (number_of l.first second loaded) (first_bytes Left (reach l.width k)) (slice_index l.numbers k);
}
