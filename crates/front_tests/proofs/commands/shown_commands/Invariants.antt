-- No more was taken than may be.
use Rattle.std.proofs.Common.{◌≤◌}
use Rattle.arn_commands.specs.declared.reader.TheConstants.{MOST_TAKEN}
use Rattle.front_tests.proofs.commands.shown_commands.Given as goal

abbrev pub invariant-loop : goal.invariant-loop
invariant-loop l = l.commands.taken ≤ MOST_TAKEN
