use Rattle.std.proofs.Common.{sym, ◌∙◌}
use Rattle.followed_pairs.proofs.Taking.{taker-more}
use Rattle.followed_pairs.proofs.copies.push_taker.Goals as goal

pub returns-in_ok-push_group : goal.returns-in_ok-push_group
returns-in_ok-push_group c =
    taker-more c.args.entries.now c.args.asked c.args.event c.event_group.result c.args.groups.now c.push_group.new.groups c.in_ok-push_group.ensures (c.event_group.ensures c.args.entries.now c.requires) (sym c.takes.ensures ∙ c.if-takes.true)
