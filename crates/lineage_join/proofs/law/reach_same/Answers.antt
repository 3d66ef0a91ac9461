use Rattle.lineage_join.proofs.Same.{same}
use Rattle.lineage_join.proofs.law.reach_same.Goals as goal

pub returns : goal.returns
returns c = same
