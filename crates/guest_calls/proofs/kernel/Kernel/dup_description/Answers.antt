use Rattle.std.proofs.Common.{refl, sym, ap, ◌∙◌, subst, Some}
use Rattle.arn_base.specs.declared.records.Extra.TheVariants as extra
use Rattle.acts_model.specs.Acts.{Returns}
use Rattle.arn_model.specs.FileCalls.{dup_opened, has_no_room}
use Rattle.arn_model.specs.Kernel.{placed}
use Rattle.guest_calls.specs.Acted.{Carried}
use Rattle.guest_calls.specs.Kept.{state_of}
use Rattle.guest_calls.specs.State.{State, OfProcess}
use Rattle.guest_calls.proofs.Carries.{acted-across, acted-after, carried-by}
use Rattle.guest_calls.proofs.Opening.{dup-is}
use Rattle.guest_calls.proofs.Stands.{machine_with}
use Rattle.guest_calls.proofs.Room.{live-sound}
use Rattle.guest_calls.proofs.Returned.{lives, no-ok}
use Rattle.guest_calls.proofs.kernel.Kernel.dup_description.Goals as goal

pub returns-clause-carried : goal.returns-clause-carried
returns-clause-carried c =
    let old : State = state_of c.self.inside in
    let mid : State = state_of (record c.self.inside { resources = c.hold_one.new.self }) in
    let answer = c.place-descriptor.result in
    subst (λ (s : State). OfProcess s c.args.pid (λ m v. Carried (dup_opened m c.args.pid (Some c.args.number)) (record { result = c.place-descriptor.result; extra = extra.Nothing }) m c.args.pid v c.returns.new.self)) c.self.view_is
    (carried-by c.args.pid answer extra.Nothing (placed c.args.pid c.args.number mid.kernel) old c.returns.new.self (λ m v. dup_opened m c.args.pid (Some c.args.number))
    (acted-across c.args.pid (Returns answer) (placed c.args.pid c.args.number mid.kernel) mid.kernel old mid c.returns.new.self refl
    (acted-after c.args.pid (Returns answer) (placed c.args.pid c.args.number mid.kernel) mid c.place-descriptor.new.self c.returns.new.self c.place-descriptor.ensures.placed (c.returns.ensures (Returns answer) refl)))
    (λ b v sees. dup-is (machine_with b old) c.args.pid c.args.number answer mid.kernel
    (ap (λ (s : State). has_no_room s.kernel c.args.pid) c.self.view_is ∙ (sym c.has_no_room.ensures ∙ c.if-has_no_room.false))
    (c.in_ok-hold_one.ensures.held.kernel old.kernel) c.place-descriptor.ensures.number))

pub invariant_of-self : goal.invariant_of-self
invariant_of-self c = live-sound c.self.inside c.args.self.now c.args.pid c.self.view_is c.self.invariant c.requires.live

pub invariant_of-self-2 : goal.invariant_of-self-2
invariant_of-self-2 c = live-sound c.self.inside c.args.self.now c.args.pid c.self.view_is c.self.invariant c.requires.live

pub returns-in_err-hold_one-clause-carried : goal.returns-in_err-hold_one-clause-carried
returns-in_err-hold_one-clause-carried c = no-ok _ c.from_residual.result c.from_residual.ensures.0

pub returns-in_err-hold_one-clause-nothing : goal.returns-in_err-hold_one-clause-nothing
returns-in_err-hold_one-clause-nothing c = no-ok _ c.from_residual.result c.from_residual.ensures.0

pub place-descriptor-requires-clause-live : goal.place-descriptor-requires-clause-live
place-descriptor-requires-clause-live c = lives c.self.inside c.args.self.now c.args.pid c.self.view_is c.requires.live
