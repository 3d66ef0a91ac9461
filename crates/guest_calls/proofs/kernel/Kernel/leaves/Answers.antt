use Rattle.std.proofs.Common.{subst, ◌+◌}
use Rattle.acts_model.specs.Acts.{Leaves}
use Rattle.guest_calls.specs.Acted.{Acted}
use Rattle.guest_calls.specs.Kept.{state_of}
use Rattle.guest_calls.specs.State.{State}
use Rattle.guest_calls.proofs.Past.{past-acted}
use Rattle.guest_calls.proofs.Pieces.{body-acted, body-sound}
use Rattle.guest_calls.proofs.kernel.Kernel.leaves.Goals as goal

pub returns : goal.returns
returns c =
    subst (λ (s : State). Acted c.args.pid Leaves s.kernel s (state_of (record c.self.inside { bodies = c.leaves.new.self; events = c.self.inside.events + 1 }))) c.self.view_is
    (body-acted c.self.inside c.args.pid Leaves c.leaves.new.self (c.leaves.ensures.follows c.self.inside.events) c.leaves.ensures.watches)

pub invariant_of-self : goal.invariant_of-self
invariant_of-self c =
    body-sound c.self.inside c.leaves.new.self (c.self.inside.events + 1) c.self.invariant c.leaves.ensures.watches
    (past-acted c.others_stay_unheld.ensures c.self.inside.bodies c.self.inside.events c.self.invariant.past c.leaves.new.self c.args.pid Leaves (c.leaves.ensures.follows c.self.inside.events))
