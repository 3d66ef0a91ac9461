-- What was put and the rest are the bytes.
use Rattle.std.proofs.Common.{length}
use Rattle.arn_base.specs.Faults.{NeverFalls}
use Rattle.session_effects.proofs.PrintLemmas.{PutSoFar}
use Rattle.session_effects.proofs.printing.put_all.Given as goal

abbrev pub invariant-loop-rest : goal.invariant-loop-rest
invariant-loop-rest g l =
    record {
      written : PutSoFar l.bytes l.rest (g.K.Sink.holds l.initial.sink) (g.K.Sink.holds l.sink);
      faults : NeverFalls (g.K.Sink.faults l.initial.sink) (g.K.Sink.faults l.sink);
    }

abbrev pub decreases-loop-rest : goal.decreases-loop-rest
decreases-loop-rest g l = length l.rest
