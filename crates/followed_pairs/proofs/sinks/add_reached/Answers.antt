use Rattle.std.proofs.Common.{refl, sym, ◌∙◌}
use Rattle.followed_pairs.proofs.Outward.{turned-more}
use Rattle.followed_pairs.proofs.sinks.add_reached.Goals as goal

pub returns-in_ok-add : goal.returns-in_ok-add
returns-in_ok-add c =
    turned-more c.args.asked c.args.sink c.args.reached _ c.args.found.now c.add.new.self (sym c.is_asked.ensures ∙ c.if-is_asked.true) refl c.in_ok-add.ensures
