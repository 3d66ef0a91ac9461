use Rattle.std.proofs.Common.{◌≡◌, ◌∙◌, ℕ, ap, refl, subst, IfSome, is_some}
use Rattle.acts_model.specs.Acts.{Shares}
use Rattle.acts_model.specs.Bodies.{View}
use Rattle.arn_model.specs.Doing.{returns as returns_of}
use Rattle.arn_model.specs.SignalCalls.{shm_row}
use Rattle.guest_bodies.specs.Shown.{seen_in}
use Rattle.guest_calls.specs.State.{State}
use Rattle.guest_calls.proofs.Carries.{carried-same}
use Rattle.guest_calls.proofs.Handled.{carried-act, has-segment-row, shares-row}
use Rattle.guest_calls.proofs.Stands.{at-seen, machine_with}
use Rattle.guest_calls.proofs.kernel.Kernel.shm.Goals as goal

pub returns-then-has_segment-clause-carried : goal.returns-then-has_segment-clause-carried
returns-then-has_segment-clause-carried c =
    let told : IfSome (seen_in c.args.self.now.guests c.args.pid) (λ v. c.has_segment.result ≡ is_some v.body.segment) =
    subst (λ (s : State). IfSome (seen_in s.guests c.args.pid) (λ v. c.has_segment.result ≡ is_some v.body.segment)) c.self.view_is c.has_segment.ensures in
    carried-same c.args.pid c.answers.result c.args.self.now c.answers.new.self (λ m v. returns_of c.error.result m.kernel) (λ m v. shm_row m c.args.pid v) c.answers.ensures.carried
    (λ b v sees. ap (λ (a : ℕ). returns_of a c.args.self.now.kernel) c.error.ensures ∙ has-segment-row (machine_with b c.args.self.now) c.args.pid v c.has_segment.result (at-seen (seen_in c.args.self.now.guests c.args.pid) v (λ (w : View). c.has_segment.result ≡ is_some w.body.segment) sees told) c.if-has_segment.true)

pub returns-clause-carried : goal.returns-clause-carried
returns-clause-carried c =
    let told : IfSome (seen_in c.args.self.now.guests c.args.pid) (λ v. c.has_segment.result ≡ is_some v.body.segment) =
    subst (λ (s : State). IfSome (seen_in s.guests c.args.pid) (λ v. c.has_segment.result ≡ is_some v.body.segment)) c.self.view_is c.has_segment.ensures in
    carried-act c.args.pid Shares c.args.self.now c.shares.new.self (λ m v. shm_row m c.args.pid v) (λ b v. refl) c.in_ok-shares.ensures.shared
    (λ b v sees. shares-row (machine_with b c.args.self.now) c.args.pid v c.has_segment.result (at-seen (seen_in c.args.self.now.guests c.args.pid) v (λ (w : View). c.has_segment.result ≡ is_some w.body.segment) sees told) c.if-has_segment.false)
