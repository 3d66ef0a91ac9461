use Rattle.std.proofs.Common.{◌≡◌, ◌∙◌, ◌+◌, ◌<◌, ◌^◌, ap, is_some, refl, subst, sym, true}
use Rattle.parts_model.specs.Pipes.{free_pipes}
use Rattle.parts_model.specs.Ports.{can_connect}
use Rattle.parts_model.specs.declared.refusals.TheConstants.{CONNECTION_REFUSED, NO_DESCRIPTOR_ROOM, NO_ROOM}
use Rattle.arn_model.specs.ChannelCalls.{connect_row, new_conn}
use Rattle.guest_calls.specs.Channels.{with_client}
use Rattle.guest_calls.proofs.Connects.{connect-full, connect-goes, connect-no_room, connect-refused}
use Rattle.guest_calls.proofs.Refusals.{opens-carried, refused-carried}
use Rattle.guest_calls.proofs.Returned.{no-ok}
use Rattle.parts_model.specs.Numbered.{nth}
use Rattle.arn_model.specs.FileCalls.{has_no_room}
use Rattle.guest_calls.specs.State.{State}
use Rattle.guest_calls.proofs.kernel.Kernel.connect.Goals as goal

pub returns-in_err-number-clause-carried : goal.returns-in_err-number-clause-carried
returns-in_err-number-clause-carried c = no-ok _ c.from_residual.result c.from_residual.ensures.0

pub returns-in_err-number-clause-nothing : goal.returns-in_err-number-clause-nothing
returns-in_err-number-clause-nothing c = no-ok _ c.from_residual.result c.from_residual.ensures.0

pub answers_one-requires-clause-live : goal.answers_one-requires-clause-live
answers_one-requires-clause-live c = subst (λ (s : State). is_some (nth s.guests c.args.pid) ≡ true) (sym c.in_ok-number.ensures.opened) c.requires.live

pub answers_one-requires-clause-room : goal.answers_one-requires-clause-room
answers_one-requires-clause-room c = subst (λ (s : State). s.events + 1 < 2 ^ 64) (sym c.in_ok-number.ensures.opened) c.requires.room

pub answers_one-requires-clause-free : goal.answers_one-requires-clause-free
answers_one-requires-clause-free c = ap (λ (s : State). has_no_room s.kernel c.args.pid) c.in_ok-number.ensures.opened ∙ (sym c.has_no_room.ensures ∙ c.if-has_no_room.false)

pub returns-then-not-can_connect-clause-carried : goal.returns-then-not-can_connect-clause-carried
returns-then-not-can_connect-clause-carried c =
    refused-carried c.args.self.now c.answers.new.self c.args.pid c.error.result CONNECTION_REFUSED c.answers.result (λ m v. connect_row m c.args.pid v) c.error.ensures c.answers.ensures.carried
    (connect-refused c.args.self.now c.args.pid c.argument-port.result c.argument-port.ensures (ap (λ (s : State). can_connect s.kernel.ports c.argument-port.result) (sym c.self.view_is) ∙ (sym c.can_connect.ensures ∙ c.if-not-can_connect.true)))

pub returns-then-has_no_room-clause-carried : goal.returns-then-has_no_room-clause-carried
returns-then-has_no_room-clause-carried c =
    refused-carried c.args.self.now c.answers-then-has_no_room.new.self c.args.pid c.error-then-has_no_room.result NO_DESCRIPTOR_ROOM c.answers-then-has_no_room.result (λ m v. connect_row m c.args.pid v) c.error-then-has_no_room.ensures c.answers-then-has_no_room.ensures.carried
    (connect-no_room c.args.self.now c.args.pid c.argument-port.result c.argument-port.ensures (ap (λ (s : State). can_connect s.kernel.ports c.argument-port.result) (sym c.self.view_is) ∙ (sym c.can_connect.ensures ∙ c.if-not-can_connect.false)) (sym c.has_no_room.ensures ∙ c.if-has_no_room.true))

pub returns-then-free_pipes-lt2-clause-carried : goal.returns-then-free_pipes-lt2-clause-carried
returns-then-free_pipes-lt2-clause-carried c =
    refused-carried c.args.self.now c.answers-then-free_pipes-lt2.new.self c.args.pid c.error-then-free_pipes-lt2.result NO_ROOM c.answers-then-free_pipes-lt2.result (λ m v. connect_row m c.args.pid v) c.error-then-free_pipes-lt2.ensures c.answers-then-free_pipes-lt2.ensures.carried
    (connect-full c.args.self.now c.args.pid c.argument-port.result c.argument-port.ensures (ap (λ (s : State). can_connect s.kernel.ports c.argument-port.result) (sym c.self.view_is) ∙ (sym c.can_connect.ensures ∙ c.if-not-can_connect.false)) (sym c.has_no_room.ensures ∙ c.if-has_no_room.false) c.free_pipes.result (subst (λ (s : State). c.free_pipes.result ≡ free_pipes s.kernel.pipes) c.self.view_is c.free_pipes.ensures) c.if-free_pipes-lt2.true)

pub returns-clause-carried : goal.returns-clause-carried
returns-clause-carried c =
    opens-carried c.args.self.now c.open_client.new.self c.answers_one.new.self c.args.pid c.in_ok-number.number c.answers_one.result (with_client c.argument-port.result (new_conn c.args.self.now.kernel) c.args.self.now.kernel) (λ m v. connect_row m c.args.pid v) c.in_ok-number.ensures.opened c.in_ok-number.ensures.number refl c.answers_one.ensures.acted c.answers_one.ensures.result c.answers_one.ensures.nothing
    (connect-goes c.args.self.now c.args.pid c.argument-port.result c.argument-port.ensures (ap (λ (s : State). can_connect s.kernel.ports c.argument-port.result) (sym c.self.view_is) ∙ (sym c.can_connect.ensures ∙ c.if-not-can_connect.false)) (sym c.has_no_room.ensures ∙ c.if-has_no_room.false) c.free_pipes.result (subst (λ (s : State). c.free_pipes.result ≡ free_pipes s.kernel.pipes) c.self.view_is c.free_pipes.ensures) c.if-free_pipes-lt2.false)

pub argument-port-requires-clause-live : goal.argument-port-requires-clause-live
argument-port-requires-clause-live c = c.requires.live

pub answers-requires-clause-live : goal.answers-requires-clause-live
answers-requires-clause-live c = c.requires.live

pub answers-requires-clause-room : goal.answers-requires-clause-room
answers-requires-clause-room c = c.requires.room

pub returns-then-not-can_connect-clause-nothing : goal.returns-then-not-can_connect-clause-nothing
returns-then-not-can_connect-clause-nothing c = c.answers.ensures.nothing

pub returns-then-not-can_connect-clause-err : goal.returns-then-not-can_connect-clause-err
returns-then-not-can_connect-clause-err c = tt

pub answers-requires-then-has_no_room-clause-live : goal.answers-requires-then-has_no_room-clause-live
answers-requires-then-has_no_room-clause-live c = c.requires.live

pub answers-requires-then-has_no_room-clause-room : goal.answers-requires-then-has_no_room-clause-room
answers-requires-then-has_no_room-clause-room c = c.requires.room

pub returns-then-has_no_room-clause-nothing : goal.returns-then-has_no_room-clause-nothing
returns-then-has_no_room-clause-nothing c = c.answers-then-has_no_room.ensures.nothing

pub returns-then-has_no_room-clause-err : goal.returns-then-has_no_room-clause-err
returns-then-has_no_room-clause-err c = tt

pub answers-requires-then-free_pipes-lt2-clause-live : goal.answers-requires-then-free_pipes-lt2-clause-live
answers-requires-then-free_pipes-lt2-clause-live c = c.requires.live

pub answers-requires-then-free_pipes-lt2-clause-room : goal.answers-requires-then-free_pipes-lt2-clause-room
answers-requires-then-free_pipes-lt2-clause-room c = c.requires.room

pub returns-then-free_pipes-lt2-clause-nothing : goal.returns-then-free_pipes-lt2-clause-nothing
returns-then-free_pipes-lt2-clause-nothing c = c.answers-then-free_pipes-lt2.ensures.nothing

pub returns-then-free_pipes-lt2-clause-err : goal.returns-then-free_pipes-lt2-clause-err
returns-then-free_pipes-lt2-clause-err c = tt

pub open_client-requires-clause-live : goal.open_client-requires-clause-live
open_client-requires-clause-live c = c.requires.live

pub returns-clause-nothing : goal.returns-clause-nothing
returns-clause-nothing c = c.answers_one.ensures.nothing

pub returns-clause-err : goal.returns-clause-err
returns-clause-err c = tt
