use Rattle.std.proofs.Common.{◌≡◌, ◌≤◌, filter, take}
use Rattle.arn_model.specs.Turn.{is_runnable}
use Rattle.guest_machine.specs.Able.{first_of}
use Rattle.guest_machine.specs.Recorded.{OfEach}
use Rattle.guest_machine.proofs.AbleLemmas.{Passed}
use Rattle.guest_machine.proofs.able.scan.Given as goal

abbrev pub invariant-loop-pid : goal.invariant-loop-pid
invariant-loop-pid l = record {
  passed : OfEach l.kernel (λ m. Passed (is_runnable m) l.pids l.pid-index l.count);
  kept : OfEach l.kernel (λ m. l.first.items ≡ first_of (filter (is_runnable m) (take l.pid-index l.pids)));
  few : l.count ≤ l.pid-index;
}
