use Rattle.std.proofs.Common.{◌≡◌, ◌∙◌, ◌+◌, ◌<◌, ◌^◌, ℕ, [], ◌∷◌, Bool, ap, false, is_some, length, refl, subst, sym, true}
use Rattle.parts_model.specs.Ports.{is_full, is_in_use}
use Rattle.parts_model.specs.declared.refusals.TheConstants.{NO_DESCRIPTOR_ROOM, NO_ROOM, PORT_IN_USE}
use Rattle.arn_model.specs.Doing.{Request, refuse, returns, unless_refused}
use Rattle.arn_model.specs.Kernel.{Kernel, next_descriptor, placed}
use Rattle.guest_calls.specs.Channels.{listening, with_listener}
use Rattle.guest_calls.proofs.Refusals.{opens-carried, refused-carried}
use Rattle.guest_calls.proofs.Returned.{no-ok}
use Rattle.parts_model.specs.Numbered.{nth}
use Rattle.arn_model.specs.FileCalls.{has_no_room}
use Rattle.guest_calls.specs.State.{State}
use Rattle.guest_calls.proofs.kernel.Kernel.listen_at.Goals as goal

-- the call by its tests
abbrev listen_by : Kernel → ℕ → ℕ → Bool → Bool → Bool → Request
listen_by k pid port used none full =
    unless_refused k (refuse PORT_IN_USE used ∷ refuse NO_DESCRIPTOR_ROOM none ∷ refuse NO_ROOM full ∷ []) (returns (next_descriptor k pid) (placed pid (length k.descriptions) (with_listener port k)))

pub returns-in_err-number-clause-carried : goal.returns-in_err-number-clause-carried
returns-in_err-number-clause-carried c = no-ok _ c.from_residual.result c.from_residual.ensures.0

pub returns-in_err-number-clause-nothing : goal.returns-in_err-number-clause-nothing
returns-in_err-number-clause-nothing c = no-ok _ c.from_residual.result c.from_residual.ensures.0

pub answers_one-requires-clause-live : goal.answers_one-requires-clause-live
answers_one-requires-clause-live c = subst (λ (s : State). is_some (nth s.guests c.args.pid) ≡ true) (sym c.in_ok-number.ensures.opened) c.requires.live

pub answers_one-requires-clause-room : goal.answers_one-requires-clause-room
answers_one-requires-clause-room c = subst (λ (s : State). s.events + 1 < 2 ^ 64) (sym c.in_ok-number.ensures.opened) c.requires.room

pub answers_one-requires-clause-free : goal.answers_one-requires-clause-free
answers_one-requires-clause-free c = ap (λ (s : State). has_no_room s.kernel c.args.pid) c.in_ok-number.ensures.opened ∙ (sym c.has_no_room.ensures ∙ c.if-has_no_room.false)

pub returns-then-is_in_use-clause-carried : goal.returns-then-is_in_use-clause-carried
returns-then-is_in_use-clause-carried c =
    refused-carried c.args.self.now c.answers.new.self c.args.pid c.error.result PORT_IN_USE c.answers.result (λ m v. listening m c.args.pid c.args.port) c.error.ensures c.answers.ensures.carried
    (λ b v sees. ap (λ (x : Bool). listen_by c.args.self.now.kernel c.args.pid c.args.port x (has_no_room c.args.self.now.kernel c.args.pid) (is_full c.args.self.now.kernel.ports)) (ap (λ (s : State). is_in_use s.kernel.ports c.args.port) (sym c.self.view_is) ∙ (sym c.is_in_use.ensures ∙ c.if-is_in_use.true)))

pub returns-then-has_no_room-clause-carried : goal.returns-then-has_no_room-clause-carried
returns-then-has_no_room-clause-carried c =
    refused-carried c.args.self.now c.answers-then-has_no_room.new.self c.args.pid c.error-then-has_no_room.result NO_DESCRIPTOR_ROOM c.answers-then-has_no_room.result (λ m v. listening m c.args.pid c.args.port) c.error-then-has_no_room.ensures c.answers-then-has_no_room.ensures.carried
    (λ b v sees. ap (λ (x : Bool). listen_by c.args.self.now.kernel c.args.pid c.args.port x (has_no_room c.args.self.now.kernel c.args.pid) (is_full c.args.self.now.kernel.ports)) (ap (λ (s : State). is_in_use s.kernel.ports c.args.port) (sym c.self.view_is) ∙ (sym c.is_in_use.ensures ∙ c.if-is_in_use.false))
    ∙ ap (λ (x : Bool). listen_by c.args.self.now.kernel c.args.pid c.args.port false x (is_full c.args.self.now.kernel.ports)) (sym c.has_no_room.ensures ∙ c.if-has_no_room.true))

pub returns-then-has_no_port-clause-carried : goal.returns-then-has_no_port-clause-carried
returns-then-has_no_port-clause-carried c =
    refused-carried c.args.self.now c.answers-then-has_no_port.new.self c.args.pid c.error-then-has_no_port.result NO_ROOM c.answers-then-has_no_port.result (λ m v. listening m c.args.pid c.args.port) c.error-then-has_no_port.ensures c.answers-then-has_no_port.ensures.carried
    (λ b v sees. ap (λ (x : Bool). listen_by c.args.self.now.kernel c.args.pid c.args.port x (has_no_room c.args.self.now.kernel c.args.pid) (is_full c.args.self.now.kernel.ports)) (ap (λ (s : State). is_in_use s.kernel.ports c.args.port) (sym c.self.view_is) ∙ (sym c.is_in_use.ensures ∙ c.if-is_in_use.false))
    ∙ ap (λ (x : Bool). listen_by c.args.self.now.kernel c.args.pid c.args.port false x (is_full c.args.self.now.kernel.ports)) (sym c.has_no_room.ensures ∙ c.if-has_no_room.false)
    ∙ ap (λ (x : Bool). listen_by c.args.self.now.kernel c.args.pid c.args.port false false x) (ap (λ (s : State). is_full s.kernel.ports) (sym c.self.view_is) ∙ (sym c.has_no_port.ensures ∙ c.if-has_no_port.true)))

pub returns-clause-carried : goal.returns-clause-carried
returns-clause-carried c =
    opens-carried c.args.self.now c.open_listener.new.self c.answers_one.new.self c.args.pid c.in_ok-number.number c.answers_one.result (with_listener c.args.port c.args.self.now.kernel) (λ m v. listening m c.args.pid c.args.port) c.in_ok-number.ensures.opened c.in_ok-number.ensures.number refl c.answers_one.ensures.acted c.answers_one.ensures.result c.answers_one.ensures.nothing
    (λ b v sees. ap (λ (x : Bool). listen_by c.args.self.now.kernel c.args.pid c.args.port x (has_no_room c.args.self.now.kernel c.args.pid) (is_full c.args.self.now.kernel.ports)) (ap (λ (s : State). is_in_use s.kernel.ports c.args.port) (sym c.self.view_is) ∙ (sym c.is_in_use.ensures ∙ c.if-is_in_use.false))
    ∙ ap (λ (x : Bool). listen_by c.args.self.now.kernel c.args.pid c.args.port false x (is_full c.args.self.now.kernel.ports)) (sym c.has_no_room.ensures ∙ c.if-has_no_room.false)
    ∙ ap (λ (x : Bool). listen_by c.args.self.now.kernel c.args.pid c.args.port false false x) (ap (λ (s : State). is_full s.kernel.ports) (sym c.self.view_is) ∙ (sym c.has_no_port.ensures ∙ c.if-has_no_port.false)))

pub answers-requires-clause-live : goal.answers-requires-clause-live
answers-requires-clause-live c = c.requires.live

pub answers-requires-clause-room : goal.answers-requires-clause-room
answers-requires-clause-room c = c.requires.room

pub returns-then-is_in_use-clause-nothing : goal.returns-then-is_in_use-clause-nothing
returns-then-is_in_use-clause-nothing c = c.answers.ensures.nothing

pub returns-then-is_in_use-clause-err : goal.returns-then-is_in_use-clause-err
returns-then-is_in_use-clause-err c = tt

pub answers-requires-then-has_no_room-clause-live : goal.answers-requires-then-has_no_room-clause-live
answers-requires-then-has_no_room-clause-live c = c.requires.live

pub answers-requires-then-has_no_room-clause-room : goal.answers-requires-then-has_no_room-clause-room
answers-requires-then-has_no_room-clause-room c = c.requires.room

pub returns-then-has_no_room-clause-nothing : goal.returns-then-has_no_room-clause-nothing
returns-then-has_no_room-clause-nothing c = c.answers-then-has_no_room.ensures.nothing

pub returns-then-has_no_room-clause-err : goal.returns-then-has_no_room-clause-err
returns-then-has_no_room-clause-err c = tt

pub answers-requires-then-has_no_port-clause-live : goal.answers-requires-then-has_no_port-clause-live
answers-requires-then-has_no_port-clause-live c = c.requires.live

pub answers-requires-then-has_no_port-clause-room : goal.answers-requires-then-has_no_port-clause-room
answers-requires-then-has_no_port-clause-room c = c.requires.room

pub returns-then-has_no_port-clause-nothing : goal.returns-then-has_no_port-clause-nothing
returns-then-has_no_port-clause-nothing c = c.answers-then-has_no_port.ensures.nothing

pub returns-then-has_no_port-clause-err : goal.returns-then-has_no_port-clause-err
returns-then-has_no_port-clause-err c = tt

pub open_listener-requires-clause-live : goal.open_listener-requires-clause-live
open_listener-requires-clause-live c = c.requires.live

pub returns-clause-nothing : goal.returns-clause-nothing
returns-clause-nothing c = c.answers_one.ensures.nothing

pub returns-clause-err : goal.returns-clause-err
returns-clause-err c = tt
