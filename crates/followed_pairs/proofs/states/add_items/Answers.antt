use Rattle.std.proofs.lemmas.Result.{IfOk-from_err}
use Rattle.followed_pairs.specs.States.{item_demand}
use Rattle.followed_pairs.proofs.More.{mapped-all, mapped-more, mapped-none}
use Rattle.followed_pairs.proofs.states.add_items.Goals as goal

pub loop-item-init : goal.loop-item-init
loop-item-init c = mapped-none (item_demand c.args.byte) c.args.demands.now.items c.args.items.now

pub returns-in_err-push : goal.returns-in_err-push
returns-in_err-push c = IfOk-from_err c.from_residual.result _ c.from_residual.ensures.0

pub loop-item-preserved : goal.loop-item-preserved
loop-item-preserved c =
    mapped-more (item_demand c.args.byte) c.args.demands.now.items c.args.items.now c.loop-item.item-index _ c.loop-item-test.true c.loop-item.demands.items c.push.new.self.items c.in_ok-push.ensures.items c.loop-item.invariant

pub returns : goal.returns
returns c = mapped-all (item_demand c.args.byte) c.args.demands.now.items c.args.items.now c.loop-item.item-index c.loop-item-test.false c.loop-item.demands.items c.loop-item.invariant
