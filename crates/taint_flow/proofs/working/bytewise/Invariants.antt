use Rattle.std.proofs.Common.{◌≡◌, ◌-◌, ◌<◌, ℕ, List, length, slice_index}
use Rattle.rv64_model.specs.Carries.{both}
use Rattle.set_store.specs.Sets.{IsUnionOf}
use Rattle.taint_spans.specs.Numbered.{IsSet, StandAsBefore, members_of}
use Rattle.taint_flow.specs.Gathered.{byte_count, number_of}
use Rattle.taint_flow.specs.Results.{TakesOperands}
use Rattle.taint_flow.proofs.working.bytewise.Given as goal

abbrev pub invariant-loop-byte : goal.invariant-loop-byte
invariant-loop-byte l = record {
  set : IsSet l.sets l.set;
  below : 0 < l.byte → IsUnionOf (members_of l.sets l.set) (members_of l.sets (slice_index l.first (l.byte - 1))) (members_of l.sets (slice_index l.second (l.byte - 1)));
  len : length l.numbers ≡ byte_count;
  bytes : (loaded : List ℕ) (k : ℕ) → k < l.byte → TakesOperands l.fn.sets l.sets (number_of l.first l.second loaded) (both k) (slice_index l.numbers k);
  before : StandAsBefore l.fn.sets l.sets;
}
