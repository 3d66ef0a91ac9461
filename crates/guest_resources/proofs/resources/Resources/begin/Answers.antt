use Rattle.std.proofs.Common.{ap, ◌∙◌}
use Rattle.guest_resources.specs.Resources.{Resources}
use Rattle.guest_resources.proofs.Changed.{first-sound}
use Rattle.guest_resources.proofs.resources.Resources.begin.Goals as goal

pub invariant_of-self : goal.invariant_of-self
invariant_of-self c =
    first-sound (record { files = c.self.inside.files; descriptions = c.self.inside.descriptions }) c.args.first (ap (λ (r : Resources). r.descriptions) c.self.view_is ∙ c.requires.none) c.requires.first c.self.invariant
