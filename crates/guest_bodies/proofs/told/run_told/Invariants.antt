use Rattle.std.proofs.Common.{◌≡◌, ◌+◌}
use Rattle.guest_bodies.specs.Led.{LedMany}
use Rattle.guest_bodies.proofs.told.run_told.Given as goal

abbrev pub invariant-loop-ran : goal.invariant-loop-ran
invariant-loop-ran g l =
    record {
      led : LedMany g.M.Memory.windows g.O.Observer.runs l.stretch.pid l.ran l.initial.cpu l.initial.memory l.initial.observer l.cpu l.memory l.observer;
      counted : l.steps ≡ l.initial.steps + l.ran;
    }
