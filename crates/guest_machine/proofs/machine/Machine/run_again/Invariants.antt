use Rattle.std.proofs.Common.{◌≡◌}
use Rattle.guest_machine.proofs.Rebuilt.{IsRebuilt}
use Rattle.guest_machine.proofs.machine.Machine.run_again.Given as goal

abbrev pub invariant-loop-entry : goal.invariant-loop-entry
invariant-loop-entry g l = record { rebuilt : IsRebuilt l.entries l.entry-index l.self l.matched l.fn.steps l.steps; place : l.at ≡ l.entry-index }
