use Rattle.std.proofs.Common.{sym, ◌∙◌}
use Rattle.guest_calls.proofs.Ends.{live-there}
use Rattle.guest_calls.proofs.kernel.Kernel.tables.Goals as goal

pub new-requires : goal.new-requires
new-requires c = λ p live. live-there c.self.inside.procs p (sym (c.self.invariant.alive p) ∙ live)
