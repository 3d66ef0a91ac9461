use Rattle.std.proofs.Common.{subst, ◌+◌}
use Rattle.acts_model.specs.Acts.{Receives}
use Rattle.guest_calls.specs.Acted.{Acted}
use Rattle.guest_calls.specs.Kept.{state_of}
use Rattle.guest_calls.specs.State.{State}
use Rattle.guest_calls.proofs.Pieces.{body-acted}
use Rattle.guest_calls.proofs.Past.{past-acted}
use Rattle.guest_calls.proofs.Pieces.{body-sound}
use Rattle.guest_calls.proofs.kernel.Kernel.receives.Goals as goal

pub returns : goal.returns
returns c =
    subst (λ (s : State). Acted c.args.pid (Receives c.args.at c.args.bytes.now c.args.answer) s.kernel s (state_of (record c.self.inside { bodies = c.receives.new.self; events = c.self.inside.events + 1 }))) c.self.view_is
    (body-acted c.self.inside c.args.pid (Receives c.args.at c.args.bytes.now c.args.answer) c.receives.new.self (c.receives.ensures.follows c.self.inside.events) c.receives.ensures.watches)

pub invariant_of-self : goal.invariant_of-self
invariant_of-self c =
    body-sound c.self.inside c.receives.new.self (c.self.inside.events + 1) c.self.invariant c.receives.ensures.watches
    (past-acted c.others_stay_unheld.ensures c.self.inside.bodies c.self.inside.events c.self.invariant.past c.receives.new.self c.args.pid (Receives c.args.at c.args.bytes.now c.args.answer) (c.receives.ensures.follows c.self.inside.events))
