use Rattle.std.proofs.Common.{◌∙◌}
use Rattle.history_index.proofs.index.Index.groups.Goals as goal

pub returns : goal.returns
returns c entries i = (rw c.families.ensures at c.founders.ensures) ∙ i.families.founders
