use Rattle.std.proofs.Common.{◌≡◌, take}
use Rattle.record_match.proofs.matching.common_len.Given as goal

abbrev pub invariant-loop-at : goal.invariant-loop-at
invariant-loop-at l = take l.at l.said ≡ take l.at l.found
