use Rattle.std.proofs.Common.{sym}
use Rattle.set_store.proofs.Once.{interned, is-empty, there-empty}
use Rattle.set_store.proofs.sets.Sets.empty.Goals as goal

pub returns-clause-set : goal.returns-clause-set
returns-clause-set c = rw (sym c.self.view_is) (there-empty c.self.inside.nodes.keys c.self.invariant.tries)

pub returns-clause-empty : goal.returns-clause-empty
returns-clause-empty c = rw (sym c.self.view_is) (is-empty c.self.inside.nodes.keys c.self.invariant.tries)

pub returns-clause-interned : goal.returns-clause-interned
returns-clause-interned c = rw (sym c.self.view_is) (interned c.self.inside.nodes.keys c.self.invariant.tries)
