use Rattle.taint_spans.proofs.Carried.{CarriedTo}
use Rattle.taint_spans.proofs.carrying.Carrying.carry_all.Given as goal

abbrev pub invariant-loop-place : goal.invariant-loop-place
invariant-loop-place l = CarriedTo l.fn.self l.self l.fn.numbers l.numbers l.place
