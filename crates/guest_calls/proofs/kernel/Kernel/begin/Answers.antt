use Rattle.std.proofs.Common.{◌∙◌, ap, ◌+◌, refl, subst, sym}
use Rattle.guest_bodies.specs.Shown.{Guests}
use Rattle.guest_calls.specs.Kept.{IsSound}
use Rattle.guest_calls.specs.State.{State}
use Rattle.guest_calls.proofs.Begun.{begun-sound, no-body, none-open}
use Rattle.guest_calls.proofs.Past.{past-begun}
use Rattle.guest_calls.proofs.Returned.{not-ok, on-err}
use Rattle.guest_calls.proofs.kernel.Kernel.begin.Goals as goal

pub invariant_of-self-2 : goal.invariant_of-self-2
invariant_of-self-2 c =
    begun-sound c.self.inside c.boots.new.self c.self.invariant (ap (λ (s : State). s.kernel.processes) c.self.view_is ∙ c.requires.no_process) c.in_ok-boots.ensures.watches c.in-Ok.procs c.begin.new.self.files c.begin.new.self.descriptions (c.self.inside.events + 1) c.in-Ok.ensures
    (past-begun c.others_stay_unheld.ensures c.self.inside.bodies c.self.inside.events c.self.invariant.past c.boots.new.self c.args.image.now c.in_ok-boots.ensures.follows)

pub returns-in_err-descriptions-clause-begun : goal.returns-in_err-descriptions-clause-begun
returns-in_err-descriptions-clause-begun c = not-ok _ c.from_residual.result c.from_residual.ensures.0

pub returns-in_err-descriptions-clause-err : goal.returns-in_err-descriptions-clause-err
returns-in_err-descriptions-clause-err c = on-err c.from_residual.result refl

pub returns-in_err-boots-clause-begun : goal.returns-in_err-boots-clause-begun
returns-in_err-boots-clause-begun c = not-ok _ c.from_residual-in_err-boots.result c.from_residual-in_err-boots.ensures.0

pub boots-requires-clause-none : goal.boots-requires-clause-none
boots-requires-clause-none c = no-body c.self.inside c.self.invariant (ap (λ (s : State). s.kernel.processes) c.self.view_is ∙ c.requires.no_process)

pub begin-requires-clause-none : goal.begin-requires-clause-none
begin-requires-clause-none c = none-open c.self.inside c.self.invariant (ap (λ (s : State). s.kernel.processes) c.self.view_is ∙ c.requires.no_process)

pub invariant_of-self : goal.invariant_of-self
invariant_of-self c =
    subst (λ (g : Guests). IsSound g c.self.inside.procs c.self.inside.resources.files c.self.inside.resources.descriptions c.self.inside.booted c.self.inside.events) (sym c.in_err-boots.ensures.err) c.self.invariant
