use Rattle.std.proofs.Common.{subst, sym}
use Rattle.guest_resources.specs.Resources.{Resources, EndsWithChannel}
use Rattle.guest_resources.proofs.Opening.{taken_back-sound}
use Rattle.guest_resources.proofs.resources.Resources.remove_last.Goals as goal

pub invariant_of-self : goal.invariant_of-self
invariant_of-self c =
    taken_back-sound (record { files = c.self.inside.files; descriptions = c.self.inside.descriptions }) c.remove_last.new.self
    (subst (λ (r : Resources). EndsWithChannel r.descriptions) (sym c.self.view_is) c.requires) c.remove_last.ensures c.self.invariant
