use Rattle.guest_calls.proofs.Closing.{IsClosing}
use Rattle.guest_calls.proofs.kernel.Kernel.close_all.Given as goal

abbrev pub invariant-loop-descriptor : goal.invariant-loop-descriptor
invariant-loop-descriptor l = IsClosing l.pid l.descriptor l.fn.self l.self
