use Rattle.guest_resources.proofs.Opening.{channel-sound}
use Rattle.guest_resources.proofs.resources.Resources.open_channel.Goals as goal

pub invariant_of-self : goal.invariant_of-self
invariant_of-self c = channel-sound c.add.result (record { files = c.self.inside.files; descriptions = c.self.inside.descriptions }) c.args.what c.add.new.self c.requires c.add.ensures.opened c.add.ensures.err c.self.invariant
