use Rattle.std.proofs.Common.{◌≤◌, length}
use Rattle.parts_tests.proofs.processes.there_are_at_most_64_processes.Given as goal

abbrev pub invariant-loop-made : goal.invariant-loop-made
invariant-loop-made g l = length l.procs ≤ l.made
