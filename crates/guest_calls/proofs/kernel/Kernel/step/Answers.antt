use Rattle.std.proofs.Common.{◌≡◌, ap, subst, ◌∙◌}
use Rattle.rv64_core.specs.Outcome.{OnStop, WouldStore}
use Rattle.rv64_core.specs.declared.outcome.Outcome.{Outcome}
use Rattle.acts_model.specs.Views.{stands_at}
use Rattle.guest_bodies.specs.Shown.{Guests}
use Rattle.guest_calls.specs.Kept.{state_of}
use Rattle.guest_calls.specs.State.{State, OfProcess}
use Rattle.guest_calls.specs.Steps.{Stepped}
use Rattle.guest_calls.proofs.Runs.{ran-steps, stands-at-call, stands-at-store}
use Rattle.guest_calls.proofs.Stands.{of_process}
use Rattle.guest_calls.proofs.Past.{past-ran}
use Rattle.guest_calls.proofs.Pieces.{body-sound}
use Rattle.guest_calls.proofs.kernel.Kernel.step.Goals as goal

pub returns-clause-stepped : goal.returns-clause-stepped
returns-clause-stepped g c some =
    let new : State = state_of (record c.self.inside { bodies = c.step.new.self }) in
    subst (λ (s : State). OfProcess s c.args.pid (λ m v. Stepped c.step.result m c.args.pid v (stands_at v) s new)) c.self.view_is
    (of_process (state_of c.self.inside) c.args.pid (λ m v. Stepped c.step.result m c.args.pid v (stands_at v) (state_of c.self.inside) new)
    (λ b v shows sees. ran-steps c.self.inside c.args.pid c.step.new.self c.step.ensures.watches b shows c.step.result c.step.ensures.ran c.step.ensures.stop some v sees))

pub returns-clause-no_memory : goal.returns-clause-no_memory
returns-clause-no_memory g c is =
    ap (λ (bodies : Guests). state_of (record c.self.inside { bodies = bodies })) (subst (λ (o : Outcome). OnStop o (c.step.new.self ≡ c.self.inside.bodies)) is c.step.ensures.stop)
    ∙ c.self.view_is

pub returns-clause-stores : goal.returns-clause-stores
returns-clause-stores g c is =
    subst (λ (s : State). OfProcess s c.args.pid (λ m v. WouldStore (stands_at v))) c.self.view_is
    (of_process (state_of c.self.inside) c.args.pid (λ m v. WouldStore (stands_at v))
    (λ b v shows sees. stands-at-store c.step.result c.args.pid c.self.inside.bodies c.step.new.self c.step.ensures.ran is v sees))

pub returns-clause-at_call : goal.returns-clause-at_call
returns-clause-at_call g c = stands-at-call c.step.result c.args.pid c.self.inside.bodies c.step.new.self c.step.ensures.ran c.step.ensures.stop

pub invariant_of-self : goal.invariant_of-self
invariant_of-self g c =
    body-sound c.self.inside c.step.new.self c.self.inside.events c.self.invariant c.step.ensures.watches
    (past-ran c.others_stay_unheld.ensures c.self.inside.bodies c.self.inside.events c.self.invariant.past c.step.new.self c.args.pid c.step.result c.step.ensures.ran)
