use Rattle.std.proofs.Common.{◌≡◌, drop}
use Rattle.lineage_model.specs.Joined as joined
use Rattle.lineage_join.proofs.told.origin_at.Given as goal

abbrev pub invariant-loop-origin : goal.invariant-loop-origin
invariant-loop-origin l = joined.origin_at l.origins l.at ≡ joined.origin_at (drop l.origin-index l.origins) l.rest
