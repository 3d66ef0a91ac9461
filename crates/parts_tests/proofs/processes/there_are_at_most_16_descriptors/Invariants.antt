use Rattle.std.proofs.Common.{IsSome}
use Rattle.parts_model.specs.Processes.{process}
use Rattle.parts_tests.proofs.processes.there_are_at_most_16_descriptors.Given as goal

abbrev pub invariant-loop-count : goal.invariant-loop-count
invariant-loop-count g l = IsSome (process l.procs 1)
