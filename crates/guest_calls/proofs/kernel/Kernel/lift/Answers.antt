use Rattle.std.proofs.Common.{subst, sym, ◌≡◌, is_some, true, None, refl}
use Rattle.parts_model.specs.Numbered.{nth}
use Rattle.parts_model.specs.Processes.{Processes}
use Rattle.guest_calls.specs.Kept.{IsSound}
use Rattle.guest_calls.specs.State.{State}
use Rattle.guest_calls.proofs.Room.{booted-live, descriptor-sound}
use Rattle.guest_calls.proofs.kernel.Kernel.lift.Goals as goal

pub invariant_of-self-2 : goal.invariant_of-self-2
invariant_of-self-2 c =
    subst (λ (p : Processes). IsSound c.self.inside.bodies p c.self.inside.resources.files c.self.inside.resources.descriptions c.self.inside.booted c.self.inside.events) (sym (c.in_ok-number.ensures.closed refl))
    (descriptor-sound c.self.inside c.args.pid c.args.descriptor None c.self.inside.resources.files c.self.inside.resources.descriptions (booted-live c.self.inside c.args.pid c.self.invariant (subst (λ (s : State). is_some (nth s.guests c.args.pid) ≡ true) (sym c.self.view_is) c.requires)) c.self.invariant)
