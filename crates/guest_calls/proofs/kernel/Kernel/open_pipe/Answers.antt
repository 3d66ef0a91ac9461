use Rattle.std.proofs.Common.{◌≡◌, subst}
use Rattle.guest_calls.specs.Channels.{with_ends}
use Rattle.guest_calls.specs.Kept.{state_of}
use Rattle.guest_calls.specs.State.{State}
use Rattle.guest_calls.proofs.NewChannels.{ends-state}
use Rattle.guest_calls.proofs.Room.{live-sound}
use Rattle.guest_calls.proofs.kernel.Kernel.open_pipe.Goals as goal

pub returns-in-Ok-clause-opened : goal.returns-in-Ok-clause-opened
returns-in-Ok-clause-opened c =
    subst (λ (s : State). state_of (record c.self.inside { resources = c.open_two.new.self; channels = c.make_pipe.new.self }) ≡ record s { kernel = with_ends s.kernel }) c.self.view_is
    (ends-state c.self.inside c.open_two.new.self c.make_pipe.new.self c.in_ok-pipe.pipe c.in_ok-pipe.ensures.number c.in-Ok.ensures.opened c.in_ok-pipe.ensures.made)

pub invariant_of-self : goal.invariant_of-self
invariant_of-self c = live-sound c.self.inside c.args.self.now c.args.pid c.self.view_is c.self.invariant c.requires.live

pub invariant_of-self-in-Ok : goal.invariant_of-self-in-Ok
invariant_of-self-in-Ok c = live-sound c.self.inside c.args.self.now c.args.pid c.self.view_is c.self.invariant c.requires.live

pub invariant_of-self-in-Err : goal.invariant_of-self-in-Err
invariant_of-self-in-Err c = live-sound c.self.inside c.args.self.now c.args.pid c.self.view_is c.self.invariant c.requires.live
