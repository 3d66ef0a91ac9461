use Rattle.std.proofs.Common.{take}
use Rattle.record_match.specs.Matching.{IsMatched}
use Rattle.record_match.proofs.matching.match_records.Given as goal

abbrev pub invariant-loop-entry : goal.invariant-loop-entry
invariant-loop-entry l = IsMatched l.entries l.fn.matched (take l.entry-index l.found) l.next
