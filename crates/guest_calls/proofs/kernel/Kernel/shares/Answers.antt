use Rattle.std.proofs.Common.{subst, ◌+◌}
use Rattle.acts_model.specs.Acts.{Shares}
use Rattle.guest_calls.specs.Acted.{Acted}
use Rattle.guest_calls.specs.Kept.{state_of}
use Rattle.guest_calls.specs.State.{State}
use Rattle.guest_calls.proofs.Past.{past-acted, past-fresh}
use Rattle.guest_calls.proofs.Pieces.{body-acted, body-sound}
use Rattle.guest_calls.proofs.kernel.Kernel.shares.Goals as goal

pub shares-requires-clause-fresh : goal.shares-requires-clause-fresh
shares-requires-clause-fresh c = past-fresh c.others_stay_unheld.ensures c.self.inside.bodies c.self.inside.events c.self.invariant.past

pub invariant_of-self-2 : goal.invariant_of-self-2
invariant_of-self-2 c =
    body-sound c.self.inside c.shares.new.self (c.self.inside.events + 1) c.self.invariant c.shares.ensures.watches
    (past-acted c.others_stay_unheld.ensures c.self.inside.bodies c.self.inside.events c.self.invariant.past c.shares.new.self c.args.pid Shares c.in_ok-shares.ensures.follows)

pub returns-clause-shared : goal.returns-clause-shared
returns-clause-shared c =
    subst (λ (s : State). Acted c.args.pid Shares s.kernel s (state_of (record c.self.inside { bodies = c.shares.new.self; events = c.self.inside.events + 1 }))) c.self.view_is
    (body-acted c.self.inside c.args.pid Shares c.shares.new.self c.in_ok-shares.ensures.follows c.shares.ensures.watches)
