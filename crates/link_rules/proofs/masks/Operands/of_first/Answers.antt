use Rattle.link_rules.proofs.Exact.{listed-of_first}
use Rattle.link_rules.proofs.masks.Operands.of_first.Goals as goal

pub returns : goal.returns
returns c = listed-of_first c.args.self
