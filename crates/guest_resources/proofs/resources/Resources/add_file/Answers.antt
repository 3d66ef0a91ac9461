use Rattle.std.proofs.Common.{subst, sym}
use Rattle.parts_model.specs.Files.{Files}
use Rattle.parts_model.specs.Tagged.{held_bytes}
use Rattle.guest_resources.specs.Resources.{IsSound}
use Rattle.guest_resources.proofs.Changed.{made-sound}
use Rattle.guest_resources.proofs.resources.Resources.add_file.Goals as goal

pub invariant_of-self-2 : goal.invariant_of-self-2
invariant_of-self-2 c =
    subst (λ (all : Files). IsSound (record { files = all; descriptions = c.self.inside.descriptions })) (sym c.in_ok-create_with.ensures.made)
    (made-sound (record { files = c.self.inside.files; descriptions = c.self.inside.descriptions }) c.args.path.now (held_bytes c.args.event c.args.bytes.now) c.self.invariant)
