use Rattle.lineage_join.proofs.Hits.{settled, settled-rises}
use Rattle.lineage_join.proofs.found.settle.Goals as goal

pub returns-clause-members : goal.returns-clause-members
returns-clause-members c = settled c.args.hits.now.items c.sort_unstable.new.self.items c.dedup.new.self.items c.sort_unstable.ensures.permutation c.dedup.ensures.filtered

pub returns-clause-rising : goal.returns-clause-rising
returns-clause-rising c = settled-rises c.args.hits.now.items c.sort_unstable.new.self.items c.dedup.new.self.items c.sort_unstable.ensures.permutation c.dedup.ensures.filtered c.sort_unstable.ensures.sorted
