use Rattle.std.proofs.Common.{◌≡◌, ◌∙◌, length, subst, ap, refl, sym}
use Rattle.parts_model.specs.declared.open.Description.TheVariants.{Device}
use Rattle.parts_model.specs.Replies.{IsAbsent}
use Rattle.arn_model.specs.Doing.{Does, Here}
use Rattle.arn_model.specs.Kernel.{with_new}
use Rattle.arn_model.specs.TransferCalls.{absent}
use Rattle.guest_calls.specs.Acted.{Carried}
use Rattle.guest_calls.specs.Kept.{state_of}
use Rattle.guest_calls.specs.State.{State, OfProcess}
use Rattle.guest_calls.proofs.Asks.{here-absent, opened, replied}
use Rattle.guest_calls.proofs.NewChannels.{opened-state, same-state, taken-back}
use Rattle.guest_calls.proofs.Room.{live-sound}
use Rattle.guest_calls.proofs.Returned.{no-ok, nothing-short}
use Rattle.guest_calls.specs.Fits.{IsShort}
use Rattle.guest_calls.proofs.kernel.Kernel.open_device.Goals as goal

pub returns-then-here-clause-replied : goal.returns-then-here-clause-replied
returns-then-here-clause-replied g c =
    let mid : State = state_of (record c.self.inside { resources = c.open_channel.new.self }) in
    let is : mid ≡ record c.args.self.now { kernel = with_new (Device c.args.device) c.args.self.now.kernel } =
    subst (λ (s : State). mid ≡ record s { kernel = with_new (Device c.args.device) s.kernel }) c.self.view_is
    (opened-state c.self.inside c.open_channel.new.self c.self.inside.channels (with_new (Device c.args.device)) c.in_ok-number.ensures.opened) in
    opened g.A.Answers.answers c.args.answers.now c.here.new.self c.args.pid c.args.self.now c.answers_one.new.self c.args.device c.in_ok-number.number mid c.answers_one.result is
    (c.in_ok-number.ensures.number ∙ ap (λ (s : State). length s.kernel.descriptions) c.self.view_is)
    c.if-here.ensures c.answers_one.ensures.acted c.answers_one.ensures.result c.answers_one.ensures.nothing

pub returns-clause-replied : goal.returns-clause-replied
returns-clause-replied g c =
    let still : state_of (record c.self.inside { resources = c.remove_last.new.self }) ≡ c.args.self.now =
    same-state c.self.inside c.remove_last.new.self c.self.inside.channels (c.remove_last.ensures ∙ taken-back c.self.inside.resources c.open_channel.new.self (Device c.args.device) c.in_ok-number.ensures.opened) refl
    ∙ c.self.view_is in
    replied g.A.Answers.answers c.args.answers.now c.here.new.self c.args.pid c.args.self.now c.fails.new.self (Here c.args.device) IsAbsent c.fails.result (λ m. absent m.kernel) (λ m v. here-absent m c.args.pid v c.args.device)
    (λ v sees. c.if-here.ensures)
    (subst (λ (s : State). OfProcess s c.args.pid (λ m v. Carried (Does (absent m.kernel)) c.fails.result m c.args.pid v c.fails.new.self)) still c.fails.ensures.carried)

pub invariant_of-self : goal.invariant_of-self
invariant_of-self g c = live-sound c.self.inside c.args.self.now c.args.pid c.self.view_is c.self.invariant c.requires.live

pub invariant_of-self-then-here : goal.invariant_of-self-then-here
invariant_of-self-then-here g c = live-sound c.self.inside c.args.self.now c.args.pid c.self.view_is c.self.invariant c.requires.live

pub invariant_of-self-2 : goal.invariant_of-self-2
invariant_of-self-2 g c = live-sound c.self.inside c.args.self.now c.args.pid c.self.view_is c.self.invariant c.requires.live

pub returns-in_err-number-clause-replied : goal.returns-in_err-number-clause-replied
returns-in_err-number-clause-replied g c = no-ok _ c.from_residual.result c.from_residual.ensures.0

pub returns-in_err-number-clause-short : goal.returns-in_err-number-clause-short
returns-in_err-number-clause-short g c = no-ok _ c.from_residual.result c.from_residual.ensures.0

pub returns-then-here-clause-short : goal.returns-then-here-clause-short
returns-then-here-clause-short g c = nothing-short c.answers_one.ensures.nothing

pub returns-clause-short : goal.returns-clause-short
returns-clause-short g c = subst IsShort (sym c.fails.ensures.extra) tt
