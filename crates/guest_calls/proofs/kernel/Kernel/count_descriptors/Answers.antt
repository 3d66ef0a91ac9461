use Rattle.std.proofs.Common.{subst, sym, ◌≡◌, ◌∙◌, length, is_some, true}
use Rattle.parts_model.specs.declared.limits.TheConstants.{MOST_DESCRIPTORS}
use Rattle.parts_model.specs.Numbered.{nth}
use Rattle.arn_model.specs.Kernel.{descriptors_of}
use Rattle.guest_calls.specs.State.{State}
use Rattle.guest_calls.proofs.Ends.{count-descriptors}
use Rattle.guest_calls.proofs.kernel.Kernel.count_descriptors.Goals as goal

pub returns : goal.returns
returns c =
    let live : is_some (nth c.self.inside.bodies c.args.pid) ≡ true = subst (λ (s : State). is_some (nth s.guests c.args.pid) ≡ true) (sym c.self.view_is) c.requires in
    subst (λ (s : State). length (descriptors_of s.kernel c.args.pid) ≡ MOST_DESCRIPTORS) c.self.view_is
    (count-descriptors c.self.inside.procs c.args.pid (sym (c.self.invariant.alive c.args.pid) ∙ live) (c.self.invariant.full c.args.pid))
