use Rattle.std.proofs.Common.{◌≡◌, ◌∙◌, subst}
use Rattle.parts_model.specs.declared.open.Description.TheVariants.{Listener}
use Rattle.guest_calls.specs.Channels.{with_listener}
use Rattle.guest_calls.specs.Kept.{state_of}
use Rattle.guest_calls.specs.State.{State}
use Rattle.guest_calls.proofs.NewChannels.{listener-state, same-state, taken-back}
use Rattle.guest_calls.proofs.Room.{live-sound}
use Rattle.guest_calls.proofs.kernel.Kernel.open_listener.Goals as goal

pub returns-in-Ok-clause-opened : goal.returns-in-Ok-clause-opened
returns-in-Ok-clause-opened c =
    subst (λ (s : State). state_of (record c.self.inside { resources = c.open_channel.new.self; channels = c.listen.new.self }) ≡ record s { kernel = with_listener c.args.port s.kernel }) c.self.view_is
    (listener-state c.self.inside c.open_channel.new.self c.listen.new.self c.args.port c.in_ok-number.ensures.opened c.in-Ok.ensures.listened)

pub returns-in-Err-clause-err : goal.returns-in-Err-clause-err
returns-in-Err-clause-err c =
    same-state c.self.inside c.remove_last.new.self c.listen.new.self (c.remove_last.ensures ∙ taken-back c.self.inside.resources c.open_channel.new.self (Listener c.args.port) c.in_ok-number.ensures.opened) c.in-Err.ensures.err
    ∙ c.self.view_is

pub invariant_of-self : goal.invariant_of-self
invariant_of-self c = live-sound c.self.inside c.args.self.now c.args.pid c.self.view_is c.self.invariant c.requires.live

pub invariant_of-self-in-Ok : goal.invariant_of-self-in-Ok
invariant_of-self-in-Ok c = live-sound c.self.inside c.args.self.now c.args.pid c.self.view_is c.self.invariant c.requires.live

pub invariant_of-self-in-Err : goal.invariant_of-self-in-Err
invariant_of-self-in-Err c = live-sound c.self.inside c.args.self.now c.args.pid c.self.view_is c.self.invariant c.requires.live
