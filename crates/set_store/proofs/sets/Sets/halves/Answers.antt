use Rattle.std.proofs.Common.{subst}
use Rattle.set_store.specs.Tries.{AreHalvesOf}
use Rattle.set_store.specs.declared.node.Node.TheVariants.{Leaf, Branch}
use Rattle.set_store.proofs.Halves.{halves-fork, node-is, not-empty, side-fork, side-leaf}
use Rattle.set_store.proofs.sets.Sets.halves.Goals as goal

pub returns-in-Empty : goal.returns-in-Empty
returns-in-Empty c = absurd (not-empty c.args.self.now c.args.set c.args.node c.in-Empty.is c.requires.node c.requires.some)

pub one_side-requires-else-fork-bit-clause-same : goal.one_side-requires-else-fork-bit-clause-same
one_side-requires-else-fork-bit-clause-same c = side-fork c.args.self.now c.args.set c.in-Branch.fork (node-is c.args.self.now c.args.set c.args.node (Branch c.in-Branch.fork) c.in-Branch.is c.requires.node) c.args.bit c.if-fork-bit.false c.requires.alike

pub returns-then-fork-bit : goal.returns-then-fork-bit
returns-then-fork-bit c =
    let fork = c.in-Branch.fork in
    subst (λ bit. AreHalvesOf c.args.self.now c.args.set bit fork.left fork.right) c.if-fork-bit.true (halves-fork c.args.self.now c.args.set fork (node-is c.args.self.now c.args.set c.args.node (Branch fork) c.in-Branch.is c.requires.node) c.requires.there)

pub one_side-requires-clause-same : goal.one_side-requires-clause-same
one_side-requires-clause-same c = side-leaf c.args.self.now c.args.set c.in-Leaf.field-0 c.args.bit (node-is c.args.self.now c.args.set c.args.node (Leaf c.in-Leaf.field-0) c.in-Leaf.is c.requires.node)
