use Rattle.std.proofs.Common.{subst, sym, is_some, true, ◌≡◌, ◌∙◌, ◌+◌, List, ℕ, refl}
use Rattle.arn_base.specs.declared.records.Extra.TheVariants as extra
use Rattle.acts_model.specs.Acts.{Receives, done}
use Rattle.guest_bodies.specs.Follows.{Follows}
use Rattle.guest_calls.specs.Acted.{Carried}
use Rattle.guest_calls.specs.Kept.{state_of}
use Rattle.guest_calls.specs.State.{State, OfProcess}
use Rattle.guest_requests.specs.Transfers.{reading_at}
use Rattle.guest_calls.proofs.Filed.{filed-carried}
use Rattle.parts_model.specs.Numbered.{nth}
use Rattle.guest_calls.proofs.Past.{past-acted}
use Rattle.guest_calls.proofs.Room.{acted-sound, booted-live}
use Rattle.guest_calls.proofs.Returned.{lives, no-ok, nothing-short, on-err, enough-for}
use Rattle.guest_calls.proofs.kernel.Kernel.take_from_file.Goals as goal

pub returns-clause-carried : goal.returns-clause-carried
returns-clause-carried c =
    subst (λ (s : State). OfProcess s c.args.pid (λ m v. Carried (reading_at m c.args.at c.args.most c.args.place) (record { result = c.len-count.result; extra = extra.Give c.in_ok-give.give }) m c.args.pid v (state_of (record c.self.inside { bodies = c.receives.new.self; resources = c.move_to.new.self; events = c.self.inside.events + 1 })))) c.self.view_is
    (filed-carried c.self.inside c.args.pid c.args.at c.args.most c.len-count.result c.args.place c.in_ok-give.give c.receives.new.self c.move_to.new.self c.in_ok-give.ensures.given c.len-count.ensures
    (λ e. c.if-count-eq0.false (c.len-count.ensures ∙ e)) c.move_to.ensures
    (subst (λ (x : List ℕ). Follows c.self.inside.bodies (done c.args.pid c.self.inside.events (Receives c.args.at x c.len-count.result)) c.receives.new.self) c.as_slice.ensures (c.receives.ensures.follows c.self.inside.events))
    c.receives.ensures.watches)

pub invariant_of-self : goal.invariant_of-self
invariant_of-self c =
    let live : is_some (nth c.self.inside.bodies c.args.pid) ≡ true = subst (λ (s : State). is_some (nth s.guests c.args.pid) ≡ true) (sym c.self.view_is) c.requires.live in
    acted-sound c.self.inside c.receives.new.self c.move_to.new.self.files c.move_to.new.self.descriptions (c.self.inside.events + 1) (booted-live c.self.inside c.args.pid c.self.invariant live) c.self.invariant c.receives.ensures.watches
    (past-acted c.others_stay_unheld.ensures c.self.inside.bodies c.self.inside.events c.self.invariant.past c.receives.new.self c.args.pid (Receives c.args.at c.as_slice.result.now c.len-count.result) (c.receives.ensures.follows c.self.inside.events))

pub returns-in_err-spare-clause-carried : goal.returns-in_err-spare-clause-carried
returns-in_err-spare-clause-carried c = no-ok _ c.from_residual.result c.from_residual.ensures.0

pub returns-in_err-spare-clause-short : goal.returns-in_err-spare-clause-short
returns-in_err-spare-clause-short c = no-ok _ c.from_residual.result c.from_residual.ensures.0

pub returns-in_err-spare-clause-err : goal.returns-in_err-spare-clause-err
returns-in_err-spare-clause-err c = on-err c.from_residual.result refl

pub returns-in_err-give-clause-carried : goal.returns-in_err-give-clause-carried
returns-in_err-give-clause-carried c = no-ok _ c.from_residual-in_err-give.result c.from_residual-in_err-give.ensures.0

pub returns-in_err-give-clause-short : goal.returns-in_err-give-clause-short
returns-in_err-give-clause-short c = no-ok _ c.from_residual-in_err-give.result c.from_residual-in_err-give.ensures.0

pub returns-in_err-give-clause-err : goal.returns-in_err-give-clause-err
returns-in_err-give-clause-err c = on-err c.from_residual-in_err-give.result refl

pub returns-then-count-eq0-clause-short : goal.returns-then-count-eq0-clause-short
returns-then-count-eq0-clause-short c = nothing-short c.answers.ensures.nothing

pub receives-requires-clause-live : goal.receives-requires-clause-live
receives-requires-clause-live c = lives c.self.inside c.args.self.now c.args.pid c.self.view_is c.requires.live

pub receives-requires-clause-enough : goal.receives-requires-clause-enough
receives-requires-clause-enough c = enough-for c.as_slice.result.now c.in_ok-give.give.bytes c.args.most c.in_ok-spare.spare c.as_slice.ensures c.in_ok-give.ensures.few_bytes c.in_ok-spare.ensures
