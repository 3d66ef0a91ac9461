use Rattle.std.proofs.Common.{◌∙◌}
use Rattle.history_index.proofs.index.Index.total.Goals as goal

pub returns : goal.returns
returns c entries i = c.ran.ensures ∙ i.total
