use Rattle.std.proofs.Common.{◌≡◌, map, take}
use Rattle.lineage_join.specs.Hits.{pair_of}
use Rattle.lineage_join.proofs.found.pairs_of.Given as goal

abbrev pub invariant-loop-hit : goal.invariant-loop-hit
invariant-loop-hit l = l.pairs ≡ map pair_of (take l.hit-index l.hits)
