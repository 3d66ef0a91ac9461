use Rattle.link_rules.proofs.Bytes.{up_to-mask}
use Rattle.link_rules.proofs.masks.up_to.Goals as goal

pub returns : goal.returns
returns c = up_to-mask c.args.byte c.requires
