use Rattle.std.proofs.Common.{subst, refl, ◌+◌}
use Rattle.guest_calls.specs.Acted.{Acted}
use Rattle.guest_calls.specs.Kept.{state_of}
use Rattle.guest_calls.specs.State.{State}
use Rattle.guest_calls.proofs.Pieces.{body-acted}
use Rattle.acts_model.specs.Acts.{Returns}
use Rattle.guest_calls.proofs.Past.{past-acted}
use Rattle.guest_calls.proofs.Pieces.{body-sound}
use Rattle.guest_calls.proofs.kernel.Kernel.returns.Goals as goal

pub returns : goal.returns
returns c act is =
    subst (λ (s : State). Acted c.args.pid act s.kernel s (state_of (record c.self.inside { bodies = c.returns.new.self; events = c.self.inside.events + 1 }))) c.self.view_is
    (body-acted c.self.inside c.args.pid act c.returns.new.self (c.returns.ensures.follows c.self.inside.events act is) c.returns.ensures.watches)

pub invariant_of-self : goal.invariant_of-self
invariant_of-self c =
    body-sound c.self.inside c.returns.new.self (c.self.inside.events + 1) c.self.invariant c.returns.ensures.watches
    (past-acted c.others_stay_unheld.ensures c.self.inside.bodies c.self.inside.events c.self.invariant.past c.returns.new.self c.args.pid (Returns c.args.answer) (c.returns.ensures.follows c.self.inside.events (Returns c.args.answer) refl))
