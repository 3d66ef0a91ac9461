use Rattle.std.proofs.Common.{sym}
use Rattle.taint_sets.proofs.Standing.{kept-members, set-kept}
use Rattle.taint_sets.proofs.sets.ByteSets.keep.Goals as goal

pub returns-then-set-lt-FIRST_RECEIVED-clause-there : goal.returns-then-set-lt-FIRST_RECEIVED-clause-there
returns-then-set-lt-FIRST_RECEIVED-clause-there c = set-kept c.args.self.now c.args.set c.if-set-lt-FIRST_RECEIVED.true c.requires

pub returns-then-set-lt-FIRST_RECEIVED-clause-members : goal.returns-then-set-lt-FIRST_RECEIVED-clause-members
returns-then-set-lt-FIRST_RECEIVED-clause-members c = sym (kept-members c.args.self.now c.args.set c.if-set-lt-FIRST_RECEIVED.true)
