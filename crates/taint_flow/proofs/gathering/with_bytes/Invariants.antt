use Rattle.taint_spans.specs.Numbered.{StandAsBefore}
use Rattle.taint_flow.specs.Gathered.{TakesBytes}
use Rattle.taint_flow.proofs.gathering.with_bytes.Given as goal

abbrev pub invariant-loop-byte : goal.invariant-loop-byte
invariant-loop-byte l = record {
  takes : TakesBytes l.fn.sets l.sets l.numbers l.mask l.byte l.start l.set;
  before : StandAsBefore l.fn.sets l.sets;
}
