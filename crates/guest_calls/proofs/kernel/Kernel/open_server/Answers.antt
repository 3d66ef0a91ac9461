use Rattle.std.proofs.Common.{◌≡◌, subst}
use Rattle.guest_calls.specs.Channels.{with_server}
use Rattle.guest_calls.specs.Kept.{state_of}
use Rattle.guest_calls.specs.State.{State}
use Rattle.guest_calls.proofs.NewChannels.{server-state}
use Rattle.guest_calls.proofs.Room.{live-sound}
use Rattle.guest_calls.proofs.kernel.Kernel.open_server.Goals as goal

pub returns-clause-opened : goal.returns-clause-opened
returns-clause-opened c =
    subst (λ (s : State). state_of (record c.self.inside { resources = c.open_channel.new.self; channels = c.accept.new.self }) ≡ record s { kernel = with_server c.args.port c.args.conn s.kernel }) c.self.view_is
    (server-state c.self.inside c.open_channel.new.self c.accept.new.self c.args.port c.args.conn c.in_ok-number.ensures.opened c.accept.ensures)

pub invariant_of-self : goal.invariant_of-self
invariant_of-self c = live-sound c.self.inside c.args.self.now c.args.pid c.self.view_is c.self.invariant c.requires

pub invariant_of-self-2 : goal.invariant_of-self-2
invariant_of-self-2 c = live-sound c.self.inside c.args.self.now c.args.pid c.self.view_is c.self.invariant c.requires
