use Rattle.std.specs.String.{string_bytes}
use Rattle.session_reports.proofs.Numbered.{IsListed}
use Rattle.session_reports.proofs.events.events.Given as goal

abbrev pub invariant-loop-entry : goal.invariant-loop-entry
invariant-loop-entry l = IsListed l.entries l.entry-index l.event (string_bytes l.lines)
