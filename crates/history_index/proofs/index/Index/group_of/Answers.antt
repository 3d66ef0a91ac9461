use Rattle.std.proofs.Common.{◌∙◌}
use Rattle.history_index.proofs.index.Index.group_of.Goals as goal

pub returns : goal.returns
returns c entries i = (rw c.families.ensures at c.group_of.ensures.group) ∙ i.families.groups c.args.pid
