use Rattle.lineage_join.proofs.Ranked.{told}
use Rattle.lineage_join.proofs.law.pairs_are_told.Goals as goal

pub returns : goal.returns
returns c = told
