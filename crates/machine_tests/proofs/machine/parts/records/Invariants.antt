-- Each record so far has a spelling.
use Rattle.std.proofs.Common.{All}
use Rattle.result_log.specs.Spelling.{HasSpelling}
use Rattle.machine_tests.proofs.machine.parts.records.Given as goal

abbrev pub invariant-loop-part : goal.invariant-loop-part
invariant-loop-part l = All HasSpelling l.entries.items
