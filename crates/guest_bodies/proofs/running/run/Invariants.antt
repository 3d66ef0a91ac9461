use Rattle.std.proofs.Common.{◌≡◌, ◌+◌}
use Rattle.guest_bodies.specs.Running.{LeadsMany}
use Rattle.guest_bodies.proofs.running.run.Given as goal

abbrev pub invariant-loop-ran : goal.invariant-loop-ran
invariant-loop-ran g l = LeadsMany g.M.Memory.windows l.ran l.initial.cpu l.initial.memory l.cpu l.memory × (l.steps ≡ l.initial.steps + l.ran)
