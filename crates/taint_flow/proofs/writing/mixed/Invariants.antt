use Rattle.std.proofs.Common.{◌≡◌, ◌<◌, ℕ, length, slice_index}
use Rattle.rv64_model.specs.Carries.{operands}
use Rattle.taint_spans.specs.Numbered.{StandAsBefore}
use Rattle.taint_flow.specs.Gathered.{byte_count, number_of}
use Rattle.taint_flow.specs.Results.{TakesOperands}
use Rattle.taint_flow.proofs.Operands.{Knows}
use Rattle.taint_flow.proofs.writing.mixed.Given as goal

abbrev pub invariant-loop-byte : goal.invariant-loop-byte
invariant-loop-byte l = record {
  len : length l.numbers ≡ byte_count;
  known : Knows l.fn.sets l.sets (number_of l.first l.second l.loaded) l.masks l.set;
  bytes : (k : ℕ) → k < l.byte → TakesOperands l.fn.sets l.sets (number_of l.first l.second l.loaded) (operands l.linkage l.instr k) (slice_index l.numbers k);
  before : StandAsBefore l.fn.sets l.sets;
}
