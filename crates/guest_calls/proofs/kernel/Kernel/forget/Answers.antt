use Rattle.std.proofs.Common.{subst, sym}
use Rattle.parts_model.specs.Processes.{Processes}
use Rattle.guest_procs.specs.Status.{status_byte}
use Rattle.guest_calls.specs.Kept.{IsSound}
use Rattle.guest_calls.proofs.Children.{reaped-sound}
use Rattle.guest_calls.proofs.kernel.Kernel.forget.Goals as goal

pub invariant_of-self : goal.invariant_of-self
invariant_of-self c =
    subst (λ (p : Processes). IsSound c.self.inside.bodies p c.self.inside.resources.files c.self.inside.resources.descriptions c.self.inside.booted c.self.inside.events) (sym c.in-Ok.ensures.ok)
    (reaped-sound c.self.inside c.in-Ok.field-0.pid (status_byte c.in-Ok.field-0.status c.in-Ok.field-0.event) c.in-Ok.ensures.told c.self.invariant)
