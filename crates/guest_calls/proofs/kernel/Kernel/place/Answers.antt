use Rattle.std.proofs.Common.{subst, sym, ap, ◌∙◌, ◌≡◌, is_some, true, false, true≢false}
use Rattle.std.specs.Result.{result_ok}
use Rattle.parts_model.specs.Numbered.{nth}
use Rattle.parts_model.specs.Processes.{Processes, process}
use Rattle.arn_model.specs.FileCalls.{has_no_room}
use Rattle.guest_calls.specs.Kept.{IsSound}
use Rattle.guest_calls.specs.State.{State}
use Rattle.guest_calls.proofs.Room.{booted-live, placed-sound, room-some}
use Rattle.guest_calls.proofs.kernel.Kernel.place.Goals as goal

pub unreachable-requires : goal.unreachable-requires
unreachable-requires c =
    let room : has_no_room c.args.self.now.kernel c.args.pid ≡ false = c.requires.room in
    absurd (true≢false (sym (room-some (process c.self.inside.procs c.args.pid) (subst (λ (s : State). has_no_room s.kernel c.args.pid ≡ false) (sym c.self.view_is) room)) ∙ (ap is_some (sym c.place.ensures.number) ∙ ap (λ r. is_some (result_ok r)) c.in-Err.is)))

pub invariant_of-self : goal.invariant_of-self
invariant_of-self c =
    subst (λ (p : Processes). IsSound c.self.inside.bodies p c.self.inside.resources.files c.self.inside.resources.descriptions c.self.inside.booted c.self.inside.events) (sym c.in-Ok.ensures.ok)
    (placed-sound c.self.inside c.args.pid c.args.description c.self.inside.resources.files c.self.inside.resources.descriptions (booted-live c.self.inside c.args.pid c.self.invariant (subst (λ (s : State). is_some (nth s.guests c.args.pid) ≡ true) (sym c.self.view_is) c.requires.live)) c.self.invariant)
