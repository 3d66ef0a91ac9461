use Rattle.std.proofs.Common.{refl, subst, sym, ap, ◌∙◌, ◌+◌, ℕ, List, length, ◌≡◌, ◌≤◌}
use Rattle.std.proofs.lemmas.List.{length-take-le}
use Rattle.arn_base.specs.declared.records.Extra.TheVariants as extra
use Rattle.arn_base.specs.declared.records.Give.{Give}
use Rattle.parts_model.specs.Channel.{front, without_front}
use Rattle.parts_model.specs.Tagged.{values, given}
use Rattle.parts_model.specs.declared.tagged.TaggedByte.{TaggedByte}
use Rattle.acts_model.specs.Acts.{Receives, done}
use Rattle.acts_model.specs.Moved.{ConsoleByte}
use Rattle.arn_model.specs.Doing.{Doing}
use Rattle.arn_model.specs.TransferCalls.{receiving}
use Rattle.guest_bodies.specs.Follows.{Follows}
use Rattle.guest_calls.specs.Acted.{Acted, Carried}
use Rattle.guest_calls.specs.Kept.{state_of}
use Rattle.guest_calls.specs.State.{State}
use Rattle.guest_requests.specs.Transfers.{taking}
use Rattle.guest_calls.proofs.Pieces.{taken-acted}
use Rattle.guest_calls.proofs.Stands.{of_process, acted-stands}
use Rattle.guest_calls.proofs.Past.{past-acted}
use Rattle.guest_calls.proofs.Pieces.{body-sound}
use Rattle.guest_calls.proofs.Returned.{lives, no-ok, on-err}
use Rattle.guest_calls.proofs.kernel.Kernel.take.Goals as goal

pub returns-clause-carried : goal.returns-clause-carried
returns-clause-carried c =
    let new : State = state_of (record c.self.inside { bodies = c.receives.new.self; console = c.take.new.self; events = c.self.inside.events + 1 }) in
    let same : c.in_ok-give.give ≡ given (front c.self.inside.console c.args.count) = c.in_ok-give.ensures.given ∙ ap given c.front.ensures in
    let within : c.args.count ≤ length c.self.inside.console.queue = subst (λ (s : State). c.args.count ≤ length s.kernel.console.queue) (sym c.self.view_is) c.requires.queued in
    let acted : Acted c.args.pid (Receives c.args.at (values (front c.args.self.now.kernel.console c.args.count)) (length (front c.args.self.now.kernel.console c.args.count))) (record c.args.self.now.kernel { console = without_front c.args.self.now.kernel.console (length (front c.args.self.now.kernel.console c.args.count)) }) c.args.self.now new =
    subst (λ (s : State). Acted c.args.pid (Receives c.args.at (values (front s.kernel.console c.args.count)) (length (front s.kernel.console c.args.count))) (record s.kernel { console = without_front s.kernel.console (length (front s.kernel.console c.args.count)) }) s new) c.self.view_is
    (taken-acted c.self.inside c.args.pid c.args.at c.args.count c.in_ok-give.give.bytes c.receives.new.self c.take.new.self (ap (λ (g : Give). g.bytes) same) (length-take-le c.args.count c.self.inside.console.queue within) c.take.ensures
    (subst (λ (x : List ℕ). Follows c.self.inside.bodies (done c.args.pid c.self.inside.events (Receives c.args.at x c.args.count)) c.receives.new.self) c.as_slice.ensures (c.receives.ensures.follows c.self.inside.events)) c.receives.ensures.watches) in
    let held : List TaggedByte = front c.args.self.now.kernel.console c.args.count in
    let long : length held ≡ c.args.count = length-take-le c.args.count c.args.self.now.kernel.console.queue c.requires.queued in
    let told : c.in_ok-give.give ≡ given held = subst (λ (s : State). c.in_ok-give.give ≡ given (front s.kernel.console c.args.count)) c.self.view_is same in
    of_process c.args.self.now c.args.pid (λ m v. Carried (taking m c.args.at c.args.count) (record { result = c.args.count; extra = extra.Give c.in_ok-give.give }) m c.args.pid v new)
    (λ b v shows sees.
    let d : Doing = receiving c.args.at (ConsoleByte c.args.self.now.kernel.console.taken) held (record c.args.self.now.kernel { console = without_front c.args.self.now.kernel.console (length held) }) in
    record {
      doing = d;
      is = refl;
      answers = sym long;
      extra = ap (λ (g : Give). extra.Give g) told;
      stands = acted-stands c.args.self.now new c.args.pid v b d shows acted refl;
    })

pub invariant_of-self : goal.invariant_of-self
invariant_of-self c =
    body-sound c.self.inside c.receives.new.self (c.self.inside.events + 1) c.self.invariant c.receives.ensures.watches
    (past-acted c.others_stay_unheld.ensures c.self.inside.bodies c.self.inside.events c.self.invariant.past c.receives.new.self c.args.pid (Receives c.args.at c.as_slice.result.now c.args.count) (c.receives.ensures.follows c.self.inside.events))

pub returns-in_err-give-clause-carried : goal.returns-in_err-give-clause-carried
returns-in_err-give-clause-carried c = no-ok _ c.from_residual.result c.from_residual.ensures.0

pub returns-in_err-give-clause-short : goal.returns-in_err-give-clause-short
returns-in_err-give-clause-short c = no-ok _ c.from_residual.result c.from_residual.ensures.0

pub returns-in_err-give-clause-err : goal.returns-in_err-give-clause-err
returns-in_err-give-clause-err c = on-err c.from_residual.result refl

pub returns-in_err-spare-clause-carried : goal.returns-in_err-spare-clause-carried
returns-in_err-spare-clause-carried c = no-ok _ c.from_residual-in_err-spare.result c.from_residual-in_err-spare.ensures.0

pub returns-in_err-spare-clause-short : goal.returns-in_err-spare-clause-short
returns-in_err-spare-clause-short c = no-ok _ c.from_residual-in_err-spare.result c.from_residual-in_err-spare.ensures.0

pub returns-in_err-spare-clause-err : goal.returns-in_err-spare-clause-err
returns-in_err-spare-clause-err c = on-err c.from_residual-in_err-spare.result refl

pub receives-requires-clause-live : goal.receives-requires-clause-live
receives-requires-clause-live c = lives c.self.inside c.args.self.now c.args.pid c.self.view_is c.requires.live
