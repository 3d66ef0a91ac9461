use Rattle.std.proofs.Common.{◌≡◌, ◌∙◌, subst, refl}
use Rattle.parts_model.specs.declared.open.Description.TheVariants.{Connection}
use Rattle.arn_model.specs.ChannelCalls.{new_conn}
use Rattle.guest_calls.specs.Channels.{with_client}
use Rattle.guest_calls.specs.Kept.{state_of}
use Rattle.guest_calls.specs.State.{State}
use Rattle.guest_calls.proofs.NewChannels.{client-state, same-state, taken-back}
use Rattle.guest_calls.proofs.Room.{live-sound}
use Rattle.guest_calls.proofs.Returned.{no-ok, not-ok, on-err}
use Rattle.guest_calls.proofs.kernel.Kernel.open_client.Goals as goal

pub returns-in-Ok-clause-opened : goal.returns-in-Ok-clause-opened
returns-in-Ok-clause-opened c =
    subst (λ (s : State). state_of (record c.self.inside { resources = c.open_channel.new.self; channels = c.connect.new.self }) ≡ record s { kernel = with_client c.args.port (new_conn s.kernel) s.kernel }) c.self.view_is
    (client-state c.self.inside c.open_channel.new.self c.connect.new.self c.args.port c.in_ok-conn.conn c.in_ok-conn.ensures c.in_ok-number.ensures.opened c.in-Ok.ensures.connected)

pub returns-in-Err-clause-err : goal.returns-in-Err-clause-err
returns-in-Err-clause-err c =
    let what = Connection c.in_ok-conn.conn.to_client c.in_ok-conn.conn.to_server in
    same-state c.self.inside c.remove_last.new.self c.connect.new.self (c.remove_last.ensures ∙ taken-back c.self.inside.resources c.open_channel.new.self what c.in_ok-number.ensures.opened) c.in-Err.ensures.err
    ∙ c.self.view_is

pub invariant_of-self : goal.invariant_of-self
invariant_of-self c = live-sound c.self.inside c.args.self.now c.args.pid c.self.view_is c.self.invariant c.requires.live

pub invariant_of-self-in-Ok : goal.invariant_of-self-in-Ok
invariant_of-self-in-Ok c = live-sound c.self.inside c.args.self.now c.args.pid c.self.view_is c.self.invariant c.requires.live

pub invariant_of-self-in-Err : goal.invariant_of-self-in-Err
invariant_of-self-in-Err c = live-sound c.self.inside c.args.self.now c.args.pid c.self.view_is c.self.invariant c.requires.live

pub returns-in_err-conn-clause-opened : goal.returns-in_err-conn-clause-opened
returns-in_err-conn-clause-opened c = not-ok _ c.from_residual.result c.from_residual.ensures.0

pub returns-in_err-conn-clause-number : goal.returns-in_err-conn-clause-number
returns-in_err-conn-clause-number c = no-ok _ c.from_residual.result c.from_residual.ensures.0

pub returns-in_err-conn-clause-err : goal.returns-in_err-conn-clause-err
returns-in_err-conn-clause-err c = on-err c.from_residual.result refl

pub returns-in_err-number-clause-opened : goal.returns-in_err-number-clause-opened
returns-in_err-number-clause-opened c = not-ok _ c.from_residual-in_err-number.result c.from_residual-in_err-number.ensures.0

pub returns-in_err-number-clause-number : goal.returns-in_err-number-clause-number
returns-in_err-number-clause-number c = no-ok _ c.from_residual-in_err-number.result c.from_residual-in_err-number.ensures.0
