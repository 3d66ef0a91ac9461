use Rattle.std.proofs.Common.{◌∙◌}
use Rattle.followed_pairs.proofs.Outward.{among-none, among-some}
use Rattle.followed_pairs.proofs.sinks.is_among.Goals as goal

pub returns-in-None : goal.returns-in-None
returns-in-None c entries indexed = among-none entries c.args.groups.now c.args.event (c.in-None.ensures entries indexed)

pub returns-in-Some : goal.returns-in-Some
returns-in-Some c entries indexed = c.contains.ensures.value ∙ among-some entries c.args.groups.now c.args.event c.in-Some.group (c.in-Some.ensures entries indexed)
