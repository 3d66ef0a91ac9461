use Rattle.std.proofs.Common.{◌∙◌}
use Rattle.history_index.proofs.index.Index.count.Goals as goal

pub returns : goal.returns
returns c entries i = (rw c.families.ensures at c.count.ensures) ∙ i.families.counts c.args.group
