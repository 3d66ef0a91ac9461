use Rattle.std.proofs.Common.{◌≡◌, ◌∙◌, ℕ, true, false, ap, refl, subst, arith, IfSome, is_some}
use Rattle.acts_model.specs.Acts.{Leaves}
use Rattle.acts_model.specs.Bodies.{View}
use Rattle.arn_model.specs.Doing.{returns as returns_of}
use Rattle.arn_model.specs.SignalCalls.{sigreturn_row}
use Rattle.guest_bodies.specs.Shown.{seen_in}
use Rattle.guest_calls.specs.State.{State}
use Rattle.guest_calls.proofs.Carries.{carried-same}
use Rattle.guest_calls.proofs.Handled.{carried-act, leaves-row, no-slot-row}
use Rattle.guest_calls.proofs.Stands.{at-seen, machine_with}
use Rattle.guest_calls.proofs.kernel.Kernel.sigreturn.Goals as goal

pub returns-then-not-is_in_handler-clause-carried : goal.returns-then-not-is_in_handler-clause-carried
returns-then-not-is_in_handler-clause-carried c =
    let told : IfSome (seen_in c.args.self.now.guests c.args.pid) (λ v. c.is_in_handler.result ≡ is_some v.body.slot) =
    subst (λ (s : State). IfSome (seen_in s.guests c.args.pid) (λ v. c.is_in_handler.result ≡ is_some v.body.slot)) c.self.view_is c.is_in_handler.ensures in
    let tested : c.is_in_handler.result ≡ false = first_of (cc, grind arith) in
    carried-same c.args.pid c.answers.result c.args.self.now c.answers.new.self (λ m v. returns_of c.error.result m.kernel) (λ m v. sigreturn_row m c.args.pid v) c.answers.ensures.carried
    (λ b v sees. ap (λ (a : ℕ). returns_of a c.args.self.now.kernel) c.error.ensures ∙ no-slot-row (machine_with b c.args.self.now) c.args.pid v c.is_in_handler.result (at-seen (seen_in c.args.self.now.guests c.args.pid) v (λ (w : View). c.is_in_handler.result ≡ is_some w.body.slot) sees told) tested)

pub returns-clause-carried : goal.returns-clause-carried
returns-clause-carried c =
    let told : IfSome (seen_in c.args.self.now.guests c.args.pid) (λ v. c.is_in_handler.result ≡ is_some v.body.slot) =
    subst (λ (s : State). IfSome (seen_in s.guests c.args.pid) (λ v. c.is_in_handler.result ≡ is_some v.body.slot)) c.self.view_is c.is_in_handler.ensures in
    let tested : c.is_in_handler.result ≡ true = first_of (cc, grind arith) in
    carried-act c.args.pid Leaves c.args.self.now c.leaves.new.self (λ m v. sigreturn_row m c.args.pid v) (λ b v. refl) c.leaves.ensures
    (λ b v sees. leaves-row (machine_with b c.args.self.now) c.args.pid v c.is_in_handler.result (at-seen (seen_in c.args.self.now.guests c.args.pid) v (λ (w : View). c.is_in_handler.result ≡ is_some w.body.slot) sees told) tested)
