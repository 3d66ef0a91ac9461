use Rattle.std.proofs.Common.{◌≤◌}
use Rattle.arn_model.specs.Turn.{is_runnable}
use Rattle.guest_machine.specs.Recorded.{OfEach}
use Rattle.guest_machine.proofs.AbleLemmas.{Passed}
use Rattle.guest_machine.proofs.able.able_at.Given as goal

abbrev pub invariant-loop-pid : goal.invariant-loop-pid
invariant-loop-pid l = record { passed : OfEach l.kernel (λ m. Passed (is_runnable m) l.pids l.pid-index l.before); few : l.before ≤ l.pid-index; within : l.before ≤ l.place }
