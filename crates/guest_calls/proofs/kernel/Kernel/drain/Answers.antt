use Rattle.std.proofs.Common.{◌≡◌, ◌∙◌, ◌+◌, ℕ, List, length, sym, ap, subst, refl}
use Rattle.arn_base.specs.declared.records.Extra.TheVariants as extra
use Rattle.parts_model.specs.Pipes.{Pipes}
use Rattle.acts_model.specs.Acts.{Receives, done}
use Rattle.arn_model.specs.Doing.{returns}
use Rattle.guest_bodies.specs.Follows.{Follows}
use Rattle.guest_channels.specs.Channels.{Channels}
use Rattle.guest_calls.specs.Acted.{Carried}
use Rattle.guest_calls.specs.Kept.{state_of}
use Rattle.guest_calls.specs.State.{State, OfProcess}
use Rattle.guest_requests.specs.Transfers.{CanDrain, draining}
use Rattle.guest_calls.proofs.Carries.{carried-same}
use Rattle.guest_calls.proofs.Past.{past-acted}
use Rattle.guest_calls.proofs.Pieces.{body-sound}
use Rattle.guest_calls.proofs.Piped.{drained-carried, draining-none, nothing-taken}
use Rattle.guest_calls.proofs.Stands.{machine_with}
use Rattle.guest_calls.proofs.Returned.{has-room, lives, no-ok, nothing-short, on-err, enough-for}
use Rattle.guest_calls.proofs.kernel.Kernel.drain.Goals as goal

pub returns-then-count-eq0-clause-carried : goal.returns-then-count-eq0-clause-carried
returns-then-count-eq0-clause-carried c =
    let old : State = state_of c.self.inside in
    let none : length c.in_ok-give.give.bytes ≡ 0 = sym c.len-count.ensures ∙ c.if-count-eq0.true in
    let same : c.take.new.self ≡ c.self.inside.channels =
    c.in_ok-give.ensures.taken
    ∙ ap (λ (p : Pipes). record c.self.inside.channels { pipes = p }) (nothing-taken c.self.inside.channels.pipes c.args.pipe c.args.most c.in_ok-give.give c.in_ok-give.ensures.given none) in
    let still : state_of (record c.self.inside { channels = c.take.new.self }) ≡ old = ap (λ (x : Channels). state_of (record c.self.inside { channels = x })) same in
    subst (λ (s : State). OfProcess s c.args.pid (λ m v. Carried (draining m c.args.at c.args.most c.args.pipe) c.answers.result m c.args.pid v c.answers.new.self)) c.self.view_is
    (carried-same c.args.pid c.answers.result old c.answers.new.self (λ m v. returns 0 m.kernel) (λ m v. draining m c.args.at c.args.most c.args.pipe)
    (subst (λ (s : State). OfProcess s c.args.pid (λ m v. Carried (returns 0 m.kernel) c.answers.result m c.args.pid v c.answers.new.self)) still c.answers.ensures.carried)
    (λ b v sees. sym (draining-none (machine_with b old) c.args.at c.args.most c.args.pipe c.requires.some c.in_ok-give.give (subst (λ (s : State). CanDrain s.kernel c.args.pipe) (sym c.self.view_is) c.requires.ready) c.in_ok-give.ensures.given none)))

pub returns-clause-carried : goal.returns-clause-carried
returns-clause-carried c =
    subst (λ (s : State). OfProcess s c.args.pid (λ m v. Carried (draining m c.args.at c.args.most c.args.pipe) (record { result = c.len-count.result; extra = extra.Give c.in_ok-give.give }) m c.args.pid v (state_of (record c.self.inside { bodies = c.receives.new.self; channels = c.take.new.self; events = c.self.inside.events + 1 })))) c.self.view_is
    (drained-carried c.self.inside c.args.pid c.args.at c.args.most c.len-count.result c.args.pipe c.in_ok-give.give c.receives.new.self c.take.new.self c.in_ok-give.ensures.given c.len-count.ensures c.if-count-eq0.false c.in_ok-give.ensures.taken
    (subst (λ (x : List ℕ). Follows c.self.inside.bodies (done c.args.pid c.self.inside.events (Receives c.args.at x c.len-count.result)) c.receives.new.self) c.as_slice.ensures (c.receives.ensures.follows c.self.inside.events))
    c.receives.ensures.watches)

pub invariant_of-self-2 : goal.invariant_of-self-2
invariant_of-self-2 c =
    body-sound c.self.inside c.receives.new.self (c.self.inside.events + 1) c.self.invariant c.receives.ensures.watches
    (past-acted c.others_stay_unheld.ensures c.self.inside.bodies c.self.inside.events c.self.invariant.past c.receives.new.self c.args.pid (Receives c.args.at c.as_slice.result.now c.len-count.result) (c.receives.ensures.follows c.self.inside.events))

pub returns-in_err-spare-clause-carried : goal.returns-in_err-spare-clause-carried
returns-in_err-spare-clause-carried c = no-ok _ c.from_residual.result c.from_residual.ensures.0

pub returns-in_err-spare-clause-short : goal.returns-in_err-spare-clause-short
returns-in_err-spare-clause-short c = no-ok _ c.from_residual.result c.from_residual.ensures.0

pub returns-in_err-spare-clause-err : goal.returns-in_err-spare-clause-err
returns-in_err-spare-clause-err c = on-err c.from_residual.result refl

pub returns-in_err-give-clause-carried : goal.returns-in_err-give-clause-carried
returns-in_err-give-clause-carried c = no-ok _ c.from_residual-in_err-give.result c.from_residual-in_err-give.ensures.0

pub returns-in_err-give-clause-short : goal.returns-in_err-give-clause-short
returns-in_err-give-clause-short c = no-ok _ c.from_residual-in_err-give.result c.from_residual-in_err-give.ensures.0

pub answers-requires-clause-live : goal.answers-requires-clause-live
answers-requires-clause-live c = lives c.self.inside c.args.self.now c.args.pid c.self.view_is c.requires.live

pub answers-requires-clause-room : goal.answers-requires-clause-room
answers-requires-clause-room c = has-room c.self.inside c.args.self.now c.self.view_is c.requires.room

pub returns-then-count-eq0-clause-short : goal.returns-then-count-eq0-clause-short
returns-then-count-eq0-clause-short c = nothing-short c.answers.ensures.nothing

pub receives-requires-clause-live : goal.receives-requires-clause-live
receives-requires-clause-live c = lives c.self.inside c.args.self.now c.args.pid c.self.view_is c.requires.live

pub receives-requires-clause-enough : goal.receives-requires-clause-enough
receives-requires-clause-enough c = enough-for c.as_slice.result.now c.in_ok-give.give.bytes c.args.most c.in_ok-spare.spare c.as_slice.ensures c.in_ok-give.ensures.few_bytes c.in_ok-spare.ensures
