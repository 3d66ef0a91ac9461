-- The runs of the places so far.
use Rattle.std.proofs.Common.{map, take}
use Rattle.guest_give.proofs.RunForms.{RunsSoFar}
use Rattle.guest_give.proofs.origins.Given as goal

abbrev pub invariant-loop-byte : goal.invariant-loop-byte
invariant-loop-byte l = RunsSoFar (map (λ byte. byte.origin) (take l.byte-index l.held)) l.origins l.last l.byte-index
