use Rattle.lineage_join.proofs.Ranked.{one}
use Rattle.lineage_join.proofs.law.pairs_are_one.Goals as goal

pub returns : goal.returns
returns c = one
