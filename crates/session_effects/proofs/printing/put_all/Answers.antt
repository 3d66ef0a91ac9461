use Rattle.std.proofs.Common.{length, sym, ◌∙◌}
use Rattle.std.proofs.lemmas.Bool.{eqb-false}
use Rattle.session_effects.proofs.PrintLemmas.{PutSoFar-more, take-rest}
use Rattle.session_effects.proofs.FaultLemmas.{NeverFalls-append}
use Rattle.session_effects.proofs.PrintLemmas.{StopsPut-so_far}
use Rattle.session_effects.proofs.printing.put_all.Goals as goal

pub returns-in_err-count-clause-stops : goal.returns-in_err-count-clause-stops
returns-in_err-count-clause-stops g c =
    StopsPut-so_far c.from_residual.result c.in_err-count.field-0.0 _ _ _ _ _ c.from_residual.ensures.1 c.loop-rest.invariant.written
    (eqb-false (length c.loop-rest.rest.now) 0 (sym c.is_empty.ensures ∙ c.loop-rest-test.true)) c.in_err-count.ensures.err

pub loop-rest-preserved : goal.loop-rest-preserved
loop-rest-preserved g c = record {
  written = PutSoFar-more _ _ _ c.in_ok-count.count _ _ _ c.loop-rest.invariant.written c.in_ok-count.ensures.bytes (take-rest c.loop-rest.rest.now c.in_ok-count.count);
  faults = NeverFalls-append _ _ _ c.loop-rest.invariant.faults c.put.ensures.faults;
}
