use Rattle.std.proofs.Common.{subst}
use Rattle.guest_calls.specs.Kept.{state_of}
use Rattle.guest_calls.specs.Running.{SteppedMany}
use Rattle.guest_calls.specs.State.{State}
use Rattle.guest_calls.proofs.Many.{past-many, stepped-many}
use Rattle.guest_calls.proofs.Pieces.{body-sound}
use Rattle.guest_calls.proofs.kernel.Kernel.run.Goals as goal

pub returns-clause-stepped : goal.returns-clause-stepped
returns-clause-stepped g c =
    subst (λ (s : State). SteppedMany c.run.result.ran c.args.pid s (state_of (record c.self.inside { bodies = c.run.new.self }))) c.self.view_is
    (stepped-many c.self.inside c.args.pid c.run.result.ran c.run.new.self c.run.ensures.ran)

pub invariant_of-self : goal.invariant_of-self
invariant_of-self g c =
    body-sound c.self.inside c.run.new.self c.self.inside.events c.self.invariant c.run.ensures.watches
    (past-many c.others_stay_unheld.ensures c.self.inside.bodies c.self.inside.events c.self.invariant.past c.args.pid c.run.result.ran c.run.new.self c.run.ensures.ran)
