use Rattle.std.proofs.Common.{◌≡◌, ◌∙◌, subst, sym, ap}
use Rattle.arn_model.specs.Kernel.{Kernel, dropped}
use Rattle.guest_channels.specs.Channels.{with_channels}
use Rattle.guest_resources.specs.Resources.{with_resources}
use Rattle.guest_calls.specs.Kept.{state_of}
use Rattle.guest_calls.specs.State.{State}
use Rattle.guest_calls.proofs.Room.{live-sound}
use Rattle.guest_calls.proofs.kernel.Kernel.drop_one.Goals as goal

pub returns-in-Some-clause-dropped : goal.returns-in-Some-clause-dropped
returns-in-Some-clause-dropped c =
    let old : State = state_of c.self.inside in
    let k : Kernel = with_resources c.drop_one.new.self old.kernel in
    let closes : dropped c.args.number old.kernel ≡ with_channels c.close.new.self k = c.in-Some.ensures.some old.kernel ∙ c.close.ensures.kernel k in
    subst (λ (s : State). state_of (record c.self.inside { resources = c.drop_one.new.self; channels = c.close.new.self }) ≡ record s { kernel = dropped c.args.number s.kernel }) c.self.view_is
    (ap (λ (x : Kernel). record old { kernel = x }) (sym closes))

pub invariant_of-self : goal.invariant_of-self
invariant_of-self c = live-sound c.self.inside c.args.self.now c.args.pid c.self.view_is c.self.invariant c.requires

pub invariant_of-self-in_default : goal.invariant_of-self-in_default
invariant_of-self-in_default c = live-sound c.self.inside c.args.self.now c.args.pid c.self.view_is c.self.invariant c.requires
