use Rattle.std.proofs.Common.{length, ◌<◌, sym, subst}
use Rattle.set_store.specs.Tries.{lists_of}
use Rattle.set_store.proofs.Once.{interned, node-found, node-lost}
use Rattle.set_store.proofs.sets.Sets.node.Goals as goal

pub returns-in-Some-clause-node : goal.returns-in-Some-clause-node
returns-in-Some-clause-node c = rw (sym c.self.view_is) (node-found c.self.inside.nodes.keys c.self.invariant.tries c.args.set c.in-Some.node.now (sym c.in-Some.ensures.key))

pub returns-in-None-clause-node : goal.returns-in-None-clause-node
returns-in-None-clause-node c =
    let below : c.args.set < length (lists_of c.self.inside.nodes.keys) = subst (λ sets. c.args.set < length sets) (sym c.self.view_is) c.requires in
    absurd (node-lost c.self.inside.nodes.keys c.self.invariant.tries c.args.set below (sym c.in-None.ensures.key))

pub returns-in-Some-clause-interned : goal.returns-in-Some-clause-interned
returns-in-Some-clause-interned c = rw (sym c.self.view_is) (interned c.self.inside.nodes.keys c.self.invariant.tries)

pub returns-in-None-clause-interned : goal.returns-in-None-clause-interned
returns-in-None-clause-interned c = rw (sym c.self.view_is) (interned c.self.inside.nodes.keys c.self.invariant.tries)
