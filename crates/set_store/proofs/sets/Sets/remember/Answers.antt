use Rattle.std.proofs.Common.{sym, subst}
use Rattle.set_store.specs.Sound.{IsRight}
use Rattle.set_store.proofs.Growth.{sound-remembered}
use Rattle.set_store.proofs.Once.{interned}
use Rattle.set_store.proofs.sets.Sets.remember.Goals as goal

pub invariant_of-self : goal.invariant_of-self
invariant_of-self c = sound-remembered c.self.inside.nodes.keys c.self.inside.memo c.remember.new.self c.args.pair c.args.set c.remember.ensures.also (subst (λ sets. IsRight sets c.args.pair c.args.set) (sym c.self.view_is) c.requires) c.self.invariant

pub returns-clause-interned : goal.returns-clause-interned
returns-clause-interned c = interned c.self.inside.nodes.keys c.self.invariant.tries
