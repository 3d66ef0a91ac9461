use Rattle.std.proofs.Common.{arith}
use Rattle.lineage_join.proofs.Members.{kept}
use Rattle.lineage_join.proofs.step.keep.Goals as goal

pub returns-in_ok-add : goal.returns-in_ok-add
returns-in_ok-add c = kept c.args.found.now c.args.byte c.args.event c.args.len c.args.at c.add.new.self (omega arith) c.in_ok-add.ensures
