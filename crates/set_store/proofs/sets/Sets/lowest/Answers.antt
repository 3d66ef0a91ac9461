use Rattle.set_store.specs.declared.node.Node.TheVariants.{Leaf, Branch}
use Rattle.set_store.proofs.Halves.{first-fork, first-leaf, node-is, not-empty}
use Rattle.set_store.proofs.sets.Sets.lowest.Goals as goal

pub returns-in-Empty-clause-first : goal.returns-in-Empty-clause-first
returns-in-Empty-clause-first c = absurd (not-empty c.args.self.now c.args.set c.args.node c.in-Empty.is c.requires.node c.requires.some)

pub returns-in-Leaf-clause-first : goal.returns-in-Leaf-clause-first
returns-in-Leaf-clause-first c = first-leaf c.args.self.now c.args.set c.in-Leaf.row (node-is c.args.self.now c.args.set c.args.node (Leaf c.in-Leaf.row) c.in-Leaf.is c.requires.node)

pub returns-in-Leaf-clause-fits : goal.returns-in-Leaf-clause-fits
returns-in-Leaf-clause-fits c = (node-is c.args.self.now c.args.set c.args.node (Leaf c.in-Leaf.row) c.in-Leaf.is c.requires.node).below.row_fits

pub returns-in-Branch-clause-first : goal.returns-in-Branch-clause-first
returns-in-Branch-clause-first c = first-fork c.args.self.now c.args.set c.in-Branch.fork (node-is c.args.self.now c.args.set c.args.node (Branch c.in-Branch.fork) c.in-Branch.is c.requires.node)

pub returns-in-Branch-clause-fits : goal.returns-in-Branch-clause-fits
returns-in-Branch-clause-fits c = (node-is c.args.self.now c.args.set c.args.node (Branch c.in-Branch.fork) c.in-Branch.is c.requires.node).below.2.row_fits
