use Rattle.std.proofs.Common.{sym, ◌∙◌}
use Rattle.set_store.proofs.Growth.{counted}
use Rattle.set_store.proofs.sets.Sets.len.Goals as goal

pub returns : goal.returns
returns c = rw (sym c.self.view_is) (c.len.ensures.len ∙ sym (counted c.self.inside.nodes.keys))
