use Rattle.std.proofs.Common.{◌++◌, ◌∷◌, ◌∙◌, [], List, Some, ap}
use Rattle.arn_base.specs.declared.records.Origin.{Origin}
use Rattle.guest_give.proofs.RunForms.{RunsSoFar-none, RunsSoFar-first, RunsSoFar-on}
use Rattle.guest_give.proofs.origins.Goals as goal
use Rattle.guest_give.proofs.origins.Goals.{in-Some+in_ok-go_on-in-Some, in-None}

pub loop-byte-init : goal.loop-byte-init
loop-byte-init c = rw c.new-origins.ensures RunsSoFar-none

pub loop-byte-preserved : goal.loop-byte-preserved
loop-byte-preserved c =
    elim c.match-last.branch [
      | in-Some+in_ok-go_on-in-Some w ↦ RunsSoFar-on _ _ _ _ _ _ _ _ _ c.loop-byte-test.true c.loop-byte.invariant w.in-Some.is (ap (λ (os : List Origin). os ++ w.in_ok-go_on-in-Some.field-0 ∷ []) w.origins-is ∙ w.in_ok-go_on-in-Some.ensures.runs) w.in_ok-go_on-in-Some.ensures.few w.last-is
      | in-None w ↦ RunsSoFar-first _ _ _ _ _ _ _ c.loop-byte-test.true c.loop-byte.invariant w.in-None.is w.origins-is (w.last-is ∙ ap (λ (o : Origin). Some o) w.single.ensures)
    ]
