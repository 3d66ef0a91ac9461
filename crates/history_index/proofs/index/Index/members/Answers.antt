use Rattle.std.proofs.Common.{◌∙◌}
use Rattle.history_index.proofs.Lookups.{members-told}
use Rattle.history_index.proofs.index.Index.members.Goals as goal

pub returns : goal.returns
returns c entries i = (rw c.families.ensures at c.members.ensures) ∙ members-told c.args.self.now entries c.args.group i
