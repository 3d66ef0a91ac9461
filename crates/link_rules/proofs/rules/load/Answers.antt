use Rattle.link_rules.proofs.Tables.{load-one}
use Rattle.link_rules.proofs.rules.load.Goals as goal

pub returns-in-Some : goal.returns-in-Some
returns-in-Some c =
    load-one c.args.linkage c.args.op c.args.byte c.in-Some.source c.bit.result c.looks_up.result c.in-Some.ensures.below c.bit.ensures c.looks_up.ensures c.in-Some.ensures.loaded
