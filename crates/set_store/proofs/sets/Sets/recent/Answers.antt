use Rattle.std.proofs.Common.{sym}
use Rattle.set_store.proofs.Once.{interned}
use Rattle.set_store.proofs.sets.Sets.recent.Goals as goal

pub returns-clause-interned : goal.returns-clause-interned
returns-clause-interned c = rw (sym c.self.view_is) (interned c.self.inside.nodes.keys c.self.invariant.tries)
