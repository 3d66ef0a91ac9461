use Rattle.set_store.specs.declared.node.Node.TheVariants.{Leaf, Branch}
use Rattle.set_store.proofs.Halves.{node-is, not-empty, top-leaf, top-fork}
use Rattle.set_store.proofs.sets.Sets.top.Goals as goal

pub returns-in-Empty-clause-top : goal.returns-in-Empty-clause-top
returns-in-Empty-clause-top c = absurd (not-empty c.args.self.now c.args.set c.args.node c.in-Empty.is c.requires.node c.requires.some)

pub returns-in-Leaf-clause-top : goal.returns-in-Leaf-clause-top
returns-in-Leaf-clause-top c = top-leaf c.args.self.now c.args.set c.in-Leaf.field-0 (node-is c.args.self.now c.args.set c.args.node (Leaf c.in-Leaf.field-0) c.in-Leaf.is c.requires.node)

pub returns-in-Branch-clause-below : goal.returns-in-Branch-clause-below
returns-in-Branch-clause-below c = (node-is c.args.self.now c.args.set c.args.node (Branch c.in-Branch.fork) c.in-Branch.is c.requires.node).below.2.bit

pub returns-in-Branch-clause-top : goal.returns-in-Branch-clause-top
returns-in-Branch-clause-top c = top-fork c.args.self.now c.args.set c.in-Branch.fork (node-is c.args.self.now c.args.set c.args.node (Branch c.in-Branch.fork) c.in-Branch.is c.requires.node)
