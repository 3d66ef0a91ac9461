use Rattle.guest_resources.proofs.Changed.{unnamed-after}
use Rattle.guest_resources.proofs.resources.Resources.unlink.Goals as goal

pub invariant_of-self : goal.invariant_of-self
invariant_of-self c = unnamed-after c.unlink.result (record { files = c.self.inside.files; descriptions = c.self.inside.descriptions }) c.args.path.now c.unlink.new.self c.unlink.ensures.unnamed c.unlink.ensures.err c.self.invariant
