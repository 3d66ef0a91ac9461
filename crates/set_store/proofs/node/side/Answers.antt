use Rattle.std.proofs.Common.{arith}
use Rattle.set_store.proofs.Sides.{side-fits}
use Rattle.set_store.proofs.node.side.Goals as goal

pub returns-clause-below : goal.returns-clause-below
returns-clause-below c = side-fits c.args.key c.args.bit (omega (arith, c.ranges.key)) c.requires
