use Rattle.std.proofs.Common.{◌∙◌}
use Rattle.history_index.proofs.index.Index.founding_event.Goals as goal

pub returns : goal.returns
returns c entries i = (rw c.families.ensures at c.founding.ensures) ∙ i.families.foundings c.args.group
