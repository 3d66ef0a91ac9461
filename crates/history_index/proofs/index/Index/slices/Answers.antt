use Rattle.std.proofs.Common.{◌∙◌}
use Rattle.history_index.proofs.index.Index.slices.Goals as goal

pub returns : goal.returns
returns c entries i = (rw c.families.ensures at c.slices.ensures) ∙ i.families.slices c.args.group
